-- How large each section is: the lengths of its entries, and how many there are.
use Rattle.std.specs.Prelude.{ℕ, Ok, Err, ◌<◌, ◌≡◌, List, [], ◌∷◌, length, get_or, set, replicate}
use Rattle.syntax.specs.Refusals.{Resolved, refused_by}
use Rattle.definition.specs.Basic.{Answer, ok}
use Rattle.definition.specs.Syntax.{Bytes}
use Rattle.definition.specs.Binary.{in_section, joined}
use Rattle.syntax.specs.declared.Refusal.{Refusal}
use Rattle.emit.specs.Put.{past, Put}
use Rattle.area.specs.Layout.{LOCALS}
use Rattle.area.specs.Kept.{Kept}
use Rattle.type_table.specs.Table.{types_in, Recalled}
use Rattle.deinline.specs.Entry.{Entries, uses_of, HeadIn, WholeIn, Three}
use Rattle.syntax.specs.declared.Entry.{Entry}
use Rattle.kept.specs.Sections.{SECTIONS}
use Rattle.kept.specs.Parts.{part_in}
use Rattle.kept.specs.declared.tally.Tally.{Tally}

-- `size` bytes more in section k, in `n` entries; both saturate, as places do
unfoldable pub added : Tally → ℕ → ℕ → ℕ → Tally
added t k size n = record { sizes = set t.sizes k (past (get_or t.sizes k 0) size); counts = set t.counts k (past (get_or t.counts k 0) n) }

-- section k's bytes end at `to`, with `n` entries more
unfoldable pub reached : Tally → ℕ → ℕ → ℕ → Tally
reached t k to n = record { sizes = set t.sizes k to; counts = set t.counts k (past (get_or t.counts k 0) n) }

-- entries, one after the other
unfoldable pub tallies : Tally → Entries → Tally
tallies t [] = t
tallies t ((k, b) ∷ es) = tallies (added t k (length b) 1) es

abbrev pub no_tally : Tally
no_tally = record { sizes = replicate SECTIONS 0; counts = replicate SECTIONS 0 }

-- what is answered, with the tally that is left
abbrev pub tallied : Resolved (Unit {0}) → Tally → Resolved Tally
tallied (Ok u) t = Ok t
tallied (Err q) t = Err q

-- a slot for each section
pub record Slots (t : Tally) : Type 0 where
  pub sizes : length t.sizes ≡ SECTIONS
  pub counts : length t.counts ≡ SECTIONS

-- entries come after those of a tally: each section's bytes stand in its part, as far as there is room
pub record Keeps (old : Bytes) (t : Tally) (es : Entries) (new : Bytes) : Type 0 where
  pub each : (k : ℕ) → k < SECTIONS → Put (part_in old k) (get_or t.sizes k 0) (joined (in_section k es)) (get_or (tallies t es).sizes k 0) (part_in new k)
  pub long : length new ≡ length old

-- an answer's entries were tallied and kept, or it was refused
pub record Tallied (a : Answer Entries) (t : Tally) (old : Bytes) (t' : Tally) (new : Bytes) : Type 0 where
  pub entries : Entries
  pub is : a ≡ ok entries
  pub tally : t' ≡ tallies t entries
  pub keeps : Keeps old t entries new

pub record NotTallied (a : Answer Entries) (r : Refusal) (old new : Bytes) : Type 0 where
  pub is : a ≡ refused_by r
  pub long : length new ≡ length old

unfoldable pub Checks : Answer Entries → Tally → Bytes → Resolved Tally → Bytes → Type 0
Checks a t old (Ok t') new = Tallied a t old t' new
Checks a t old (Err r) new = NotTallied a r old new

-- ## What checking needs, and leaves

-- an entry's type uses have their numbers; a function's body reads to its end, and its head is small and can be read
pub record Ready (s w : List ℕ) (r : ℕ) (e : Entry) : Type 0 where
  pub recalled : Recalled w (types_in s w) (uses_of s r e)
  pub whole : WholeIn s r e
  pub head : HeadIn s e

-- so are a field's entries
pub record ReadyThree (s w : List ℕ) (r : ℕ) (x : Three) : Type 0 where
  pub first : Ready s w r x.first
  pub second : Ready s w r x.second
  pub third : Ready s w r x.third

abbrev pub AreaBy : Resolved Tally → List ℕ → List ℕ → Type 0
AreaBy (Ok t) w w' = Kept LOCALS w w'
AreaBy (Err r) w w' = length w' ≡ length w

-- an answer was checked: its entries tallied and kept, or its refusal told
pub record ChecksIn (a : Answer Entries) (t : Tally) (w old : List ℕ) (r : Resolved Tally) (w' new : List ℕ) : Type 0 where
  pub says : Checks a t old r new
  pub area : AreaBy r w w'
