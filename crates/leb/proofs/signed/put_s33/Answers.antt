use borrow.Author.Rules.{rules}
use Rattle.leb.proofs.WritingSigned.{put_natural}
use Rattle.leb.proofs.signed.put_s33.Goals as goal

pub returns : goal.returns
returns c = search (put_natural, rules)
