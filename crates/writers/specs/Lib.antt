pub mod Does
