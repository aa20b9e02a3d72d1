use borrow.Author.Rules.{rules}
use Rattle.leb.proofs.Signs.{fits_below, fits-from}
use Rattle.leb.proofs.signed.fits7.Goals as goal

pub returns-then-x-ltminus64 : goal.returns-then-x-ltminus64
returns-then-x-ltminus64 c = search (fits_below, rules)

pub returns : goal.returns
returns c = search fits-from
