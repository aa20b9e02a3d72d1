-- What the work area says: tables of names as the definition's namespaces. Each function is total, so no caller keeps an invariant of the entries.
use Rattle.std.specs.Prelude.{ℕ, zero, suc, ◌+◌, ◌-◌, ◌*◌, ◌/◌, ◌%◌, min, List, [], ◌∷◌, eqb, length, get_or, set, if◌then◌else◌, Option as Optional}
use Rattle.std.proofs.Math.Option.{Option, none, some}
use Rattle.definition.specs.Basic.{Answer}
use Rattle.definition.specs.Syntax.{Bytes, Identifier}
use Rattle.definition.specs.Names.{Namespace}
use Rattle.syntax.specs.Reads.{maybe, same}
use Rattle.syntax.specs.Refusals.{Resolved, answer}
use Rattle.syntax.specs.Tokens.{part_of, id_of}
use Rattle.syntax.specs.declared.Part.{Part}

-- the tag of a name, in one word: its length, its first byte, its last, and the one in the middle. Names of different tags differ
unfoldable pub tag_of : Bytes → ℕ
tag_of bs = length bs % 256 + 256 * get_or bs 0 0 + 65536 * get_or bs (length bs - 1) 0 + 16777216 * get_or bs (length bs / 2) 0

-- where two words say that an identifier stands: its place in the stream and its length, 0 where there is none
abbrev pub entry_part : List ℕ → ℕ → Part
entry_part w i = record { at = get_or w i 0; len = get_or w (i + 1) 0 }

-- the identifier that three words say: the third is its tag. With any other word there is none
unfoldable pub entry : Bytes → List ℕ → ℕ → Option Identifier
entry s w i = if eqb (get_or w (i + 2) 0) (tag_of (part_of s (entry_part w i))) then id_of s (entry_part w i) else none

-- the three words of an entry. A place past the stream's end says no more than the end itself, which goes into a word
unfoldable pub entry_words : Bytes → List ℕ → ℕ → Part → List ℕ
entry_words s w i p = set (set (set w i (min p.at (length s))) (i + 1) p.len) (i + 2) (tag_of (part_of s p))

-- so many entries, the first at `base`
unfoldable pub names : ℕ → Bytes → List ℕ → ℕ → Namespace Identifier
names zero s w base = []
names (suc n) s w base = entry s w base ∷ names n s w (base + 3)

-- so many open blocks, the innermost first; the outermost stands at `base`
unfoldable pub labels : ℕ → Bytes → List ℕ → ℕ → Namespace Identifier
labels zero s w base = []
labels (suc n) s w base = entry s w (base + 3 * n) ∷ labels n s w base

abbrev pub found : Optional ℕ → Option ℕ
found = maybe same

abbrev pub resolved : Resolved ℕ → Answer ℕ
resolved = answer same
