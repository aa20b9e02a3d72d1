use Rattle.import_export.proofs.Exports.{Exporting}
use Rattle.syntax.specs.Tokens.{space_of}
use Rattle.import_export.proofs.export.put_exports.Given as goal

abbrev pub invariant-loop-i : goal.invariant-loop-i
invariant-loop-i l = Exporting l.s l.fn.exports.at l.fn.exports.count (space_of l.k) l.n l.initial.out l.at l.to l.i l.here l.out
