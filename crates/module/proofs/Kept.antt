-- The parts of the kept bytes, and what is copied from them: a section that had room in its part stands there.
use Prim.Native.Nat.{ℕ, ◌+◌, ◌-◌, ◌^◌, ◌≤◌, ◌<◌}
use mathlib.Core.Path.{◌≡◌, refl, sym, ◌∙◌, ap}
use mathlib.Core.List.{List}
use lib.ListN.{length, take, drop, get_or-replicate}
use lib.Seq.{take-take, take_at}
use native.Mathlib.Omega.{arith}
use borrow.Rule.Slice.PartMut.{mid_len}
use Rattle.definition.specs.Syntax.{Bytes}
use Rattle.definition.specs.Binary.{in_section, joined}
use Rattle.emit.specs.Put.{Put, past}
use Rattle.emit.proofs.Laws.{put_is, put-room}
use Rattle.area.specs.Layout.{LOCALS}
use Rattle.area.proofs.Kept.{kept_same}
use Rattle.deinline.specs.Entry.{Entries}
use Rattle.kept.specs.Sections.{SECTIONS}
use Rattle.kept.specs.Parts.{start_of, part_in}
use Rattle.kept.proofs.Keeping.{part-within}
use Rattle.sections.specs.Write.{Writes, Held, all_entries}

-- a length that did not saturate
exact : (n size room : ℕ) → size ≡ past 0 n → size ≤ room → room < 2 ^ 63 → n ≡ size
unfolding past
exact n size room e h s = omega arith

-- bytes that were put first and had room are the first ones
put_first : (old new bs : Bytes) (at to size : ℕ) → Put old at bs to new → at ≡ 0 → size ≡ past 0 (length bs) → size ≤ length old → take size new ≡ bs
put_first old new bs at to size p z e h =
    let n : length bs ≡ size = exact (length bs) size (length old) e h p.short in
    let p' : Put old 0 bs to new = rw z at p in
    ap (take size) (put-room p' (omega arith)).1 ∙ take_at bs (drop (0 + length bs) old) size n

-- what begins with a part and ends within the kept bytes stands within them
pub part_end : (kept : Bytes) (k a b size : ℕ) → a ≡ start_of (length kept) k → b ≤ length kept → size ≤ b - a → a + size ≤ length kept
part_end kept k a b size e g h = let w = part-within kept k a e in omega arith

module _ (kept : Bytes) (k a b : ℕ) (h : k < SECTIONS) (from : a ≡ start_of (length kept) k) (to : b ≡ start_of (length kept) (k + 1)) where
  part-is : part_in kept k ≡ take (b - a) (drop a kept)
  unfolding part_in
  part-is = rw (from, to) refl

  part-long : length (part_in kept k) ≡ b - a
  part-long = ap length part-is ∙ mid_len a b kept (part-within kept (k + 1) b to)

  module _ (size : ℕ) (room : size ≤ b - a) where
    part-first : take ((a + size) - a) (drop a kept) ≡ take size (part_in kept k)
    part-first =
        let e : (a + size) - a ≡ size = omega arith in
        rw (e, part-is) (sym (take-take size (b - a) (drop a kept) room))

    -- what is copied are the section's bytes
    part_held : (es : Entries) → Held kept es → size ≡ past 0 (length (joined (in_section k es))) → take ((a + size) - a) (drop a kept) ≡ joined (in_section k es)
    part_held es v e =
        let p = v.keeps.each k h in
        let l = p.long in
        let m = part-long in
        part-first ∙ put_first (part_in v.old k) (part_in kept k) (joined (in_section k es)) _ _ size p (get_or-replicate SECTIONS k 0 0 h) e (omega arith)

    pub part-put : (s w : List ℕ) (old new : Bytes) (at r : ℕ) → Held kept (all_entries s w) → size ≡ past 0 (length (joined (in_section k (all_entries s w))))
        → Put old at (take ((a + size) - a) (drop a kept)) r new → Writes (joined (in_section k (all_entries s w))) old at r new w w
    part-put s w old new at r v e p = record { put = put_is p (part_held (all_entries s w) v e); area = kept_same LOCALS w }
