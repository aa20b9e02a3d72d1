-- The writers: the module, alone or with its name section.
use Prim.Native.Nat.{ℕ, ◌+◌, ◌≤◌, ◌<◌}
use mathlib.Core.Path.{◌≡◌, refl, ◌∙◌, ap}
use mathlib.Core.List.{List, ◌++◌}
use lib.ListN.{length, drop, get_or, length-append}
use borrow.Author.Tests.{lt-leb, le-leb}
use native.Mathlib.Omega.{arith}
use Rattle.definition.specs.Binary.{module'}
use Rattle.definition.specs.Assemble.{fitting, say, output_after}
use Rattle.emit.specs.Put.{Put, past}
use Rattle.area.specs.Layout.{SIZE}
use Rattle.emit.proofs.Laws.{put-room, put_then, put_is}
use Rattle.area.specs.Flags.{data_named_in}
use Rattle.kept.specs.Tally.{tallies, no_tally}
use Rattle.kept.specs.declared.tally.Tally.{Tally}
use Rattle.module.specs.Length.{module_len}
use Rattle.sections.specs.Write.{Writes, Writable, all_entries, module_items}
use Rattle.module.proofs.Lengths.{past-past, past_measured}
use Rattle.module.proofs.Sections.{module_len-is, writable-same}
use Rattle.name_section.specs.Section.{NameTally, name_len, names_in}
use Rattle.name_section.proofs.Subsections.{name_len-is, name_tally_kept, names-kept}
use Rattle.writers.specs.Does.{heard, no_room, Does}
use Rattle.writers.specs.declared.Said.{Said}

module _ (count : ℕ) (bs w old : List ℕ) (m : ℕ) (g : m ≡ past 0 (length bs)) where
  -- the bytes have no room
  pub write_short : (r : Said) → r ≡ no_room count → length old < m → Does count bs w old r w old
  unfolding fitting heard say output_after past
  write_short r e h = record { says = rw (e, lt-leb (length bs) (length old) (omega (arith, g))) refl; long = refl }

  -- they have
  pub write_fits : (len : ℕ) (new w' : List ℕ) → m ≤ length old → Writes bs old 0 len new w w'
      → Does count bs w old (record { number = 0; rec = count; first = count; len = len }) w' new
  unfolding fitting heard say output_after past
  write_fits len new w' h y =
      let b = y.put.short in
      let k : length bs ≤ length old = omega (arith, g, b) in
      let p = put-room y.put (omega (arith, k)) in
      let z : 0 + length bs ≡ length bs = omega arith in
      let a : len ≡ length bs = p.0 ∙ z in
      let c : new ≡ bs ++ drop (length bs) old = p.1 ∙ ap (λ n. bs ++ drop n old) z in
      record { says = rw (le-leb _ _ k, a, c) refl; long = y.area.long }

-- the module's length
pub module_long : (s w : List ℕ) (t : Tally) (m : ℕ) → Writable s w → t ≡ tallies no_tally (all_entries s w) → m ≡ module_len (get_or w SIZE 0) (data_named_in w) t → m ≡ past 0 (length (module' (module_items s w)))
module_long s w t m v e g = g ∙ module_len-is t s w v e

-- with its names
pub both_long : (s w : List ℕ) (t n : Tally) (m l k : ℕ) → Writable s w → t ≡ tallies no_tally (all_entries s w) → m ≡ module_len (get_or w SIZE 0) (data_named_in w) t → NameTally s w n → l ≡ name_len n → k ≡ past m l
    → k ≡ past 0 (length (module' (module_items s w) ++ names_in s w))
both_long s w t n m l k v e g x y z =
    let a : m ≡ past 0 (length (module' (module_items s w))) = g ∙ module_len-is t s w v e in
    let b : l ≡ past 0 (length (names_in s w)) = y ∙ name_len-is s w n x in
    z ∙ rw (a, b, length-append (module' (module_items s w)) (names_in s w)) (past_measured _ (length (names_in s w)) ∙ past-past 0 _ _)

-- the name section after the module
pub both-put : (s w : List ℕ) (bs old mid new w' : List ℕ) (at len : ℕ) → Writes bs old 0 at mid w w' → Put mid at (names_in s w') len new → Writes (bs ++ names_in s w) old 0 len new w w'
both-put s w bs old mid new w' at len x y =
    record { put = put_then x.put (put_is y (names-kept s w w' x.area)); area = x.area }

pub names-writable : (s w bs old new w' : List ℕ) (at : ℕ) → Writable s w → Writes bs old 0 at new w w' → Writable s w'
names-writable s w bs old new w' at v x = writable-same s w w' x.area v

pub names-tally : (s w bs old new w' : List ℕ) (at : ℕ) (n : Tally) → NameTally s w n → Writes bs old 0 at new w w' → NameTally s w' n
names-tally s w bs old new w' at n h x = name_tally_kept s w w' x.area n h
