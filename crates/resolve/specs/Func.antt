-- The two entries of an own function, by the number of its type.
use Rattle.std.specs.Prelude.{ℕ, Option, Some, None, ◌<◌, ◌≡◌, List, length}
use Rattle.syntax.specs.Refusals.{Resolved}
use Rattle.definition.specs.Basic.{Answer, ok}
use Rattle.definition.specs.Syntax as Syntax
use Rattle.definition.specs.Syntax.{Bytes}
use Rattle.syntax.specs.declared.List as Code
use Rattle.syntax.specs.declared.TypeUse.{TypeUse}
use Rattle.syntax.specs.declared.Own.TheVariants as O
use Rattle.syntax.specs.declared.Source.{Source}
use Rattle.syntax.specs.declared.Source.TheVariants as S
use Rattle.binary.specs.Code.{code_of}
use Rattle.function.specs.Function.{typed_answer, EmitsTyped}
use Rattle.deinline.specs.Entry.{Entries, one_of, type_bytes, tagged}
use Rattle.kept.specs.Sections.{SECTIONS}
use Rattle.kept.specs.Parts.{part_in}

abbrev pub func_in : Source → Option (TypeUse × Code.List)
func_in (S.Own (O.Func t ls)) = Some (t, ls)
func_in (S.Own (O.Table t)) = None
func_in (S.Own (O.Mem l)) = None
func_in (S.Own (O.Global t c)) = None
func_in (S.Imported n x) = None
func_in (S.TableOf w xs) = None
func_in (S.MemOf w d) = None

-- its entries, once the type's number is known
unfoldable pub type_entry : Syntax.TypeNo → Answer Entries
type_entry n = tagged 3 (one_of type_bytes (ok n))

unfoldable pub code_entry : Bytes → List ℕ → ℕ → Syntax.TypeNo → TypeUse → Code.List → ℕ → Answer Entries
code_entry s w r n t ls here = tagged 10 (one_of code_of (typed_answer s w r n t ls here))

-- the code in its part: the other parts stay
pub record KeepsCode (s w : List ℕ) (r : ℕ) (n : Syntax.TypeNo) (t : TypeUse) (ls : Code.List) (here : ℕ) (old : List ℕ) (from : ℕ) (q : Resolved ℕ) (w' new : List ℕ) : Type 0 where
  pub part : EmitsTyped s w r n t ls here (part_in old 10) from q w' (part_in new 10)
  pub there : (k : ℕ) → k < SECTIONS → (k ≡ 10 → ⊥) → part_in new k ≡ part_in old k
  pub long : length new ≡ length old
