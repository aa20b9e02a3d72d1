use Rattle.module.proofs.Sections.{content-start, content-counted}
use Rattle.module.proofs.write.put_content.Goals as goal

pub returns-then-k-eq-START : goal.returns-then-k-eq-START
returns-then-k-eq-START c = search content-start

pub returns : goal.returns
returns c = search content-counted
