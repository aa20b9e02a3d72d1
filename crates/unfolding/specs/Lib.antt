pub mod FlatStream
