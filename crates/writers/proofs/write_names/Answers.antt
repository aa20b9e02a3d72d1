use Rattle.writers.proofs.Writers.{write_short, write_fits, both_long, both-put, names-writable, names-tally}
use Rattle.writers.proofs.write_names.Goals as goal

pub returns-then-out-tally : goal.returns-then-out-tally
returns-then-out-tally c = search (write_short, both_long)

pub put_name_section-len-requires : goal.put_name_section-len-requires
put_name_section-len-requires c = (search names-writable, search names-tally)

pub returns : goal.returns
returns c = search (write_fits, both_long, both-put)
