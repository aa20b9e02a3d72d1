-- What emitting an entry says and leaves.
use Rattle.std.specs.Prelude.{ℕ, Ok, Err, ◌<◌, ◌≡◌, List, length}
use Rattle.syntax.specs.Refusals.{Resolved}
use Rattle.area.specs.Layout.{LOCALS}
use Rattle.area.specs.Kept.{Kept}
use Rattle.scope.specs.Scope.{scope_in}
use Rattle.deinline.specs.Entry.{section_no, answer_of}
use Rattle.entries.specs.Listed.{Answers}
use Rattle.syntax.specs.declared.Entry.{Entry}
use Rattle.import_export.specs.declared.export.Ends.{Ends}
use Rattle.kept.specs.Sections.{SECTIONS}
use Rattle.kept.specs.Parts.{part_in}

-- where it is emitted only the places of locals and labels are written
abbrev pub AreaOf : Resolved Ends → List ℕ → List ℕ → Type 0
AreaOf (Ok e) w w' = Kept LOCALS w w'
AreaOf (Err r) w w' = length w' ≡ length w

pub record EmitsEntry (s w : List ℕ) (r : ℕ) (e : Entry) (old : List ℕ) (at : ℕ) (q : Resolved Ends) (w' new : List ℕ) : Type 0 where
  pub answers : Answers (answer_of (scope_in s w) s r e) old at q new
  pub area : AreaOf q w w'

-- the same in the part of the entry's section: the other parts stay
pub record EmitsKept (s w : List ℕ) (r : ℕ) (e : Entry) (old : List ℕ) (from : ℕ) (q : Resolved Ends) (w' new : List ℕ) : Type 0 where
  pub here : EmitsEntry s w r e (part_in old (section_no e)) from q w' (part_in new (section_no e))
  pub there : (k : ℕ) → k < SECTIONS → (k ≡ section_no e → ⊥) → part_in new k ≡ part_in old k
  pub long : length new ≡ length old
