-- How many types a stream declares, as reading counts them.
use Rattle.std.specs.Prelude.{Ok}
use mathlib.Core.Path.{◌≡◌, refl, ap, sym, ◌∙◌}
use Prim.Native.Nat.{ℕ, zero, suc, ◌+◌, ◌-◌, ◌≤◌, ◌<◌, min}
use mathlib.Core.Bool.{Bool, false}
use mathlib.Core.List.{List, [], ◌∷◌, ◌++◌, map}
use mathlib.Core.Option.{Option, none, some}
use lib.ListN.{length, length-append, get_or}
use lib.Seq.{sets, length-sets, sets-eq}
use borrow.Author.Tests.{ltb-true}
use native.Mathlib.Omega.{arith}
use native.Mathlib.Decide.{dec_le}
use Rattle.laws.proofs.Declared.{declared-append, item-declares}
use Rattle.definition.specs.Basic.{ok}
use Rattle.definition.specs.Syntax as Syntax
use Rattle.area.specs.Layout.{COUNTS, DATA_NAMED, DECLARED, ENDS}
use Rattle.area.specs.Flags.{flag_put}
use Rattle.area.proofs.Kept.{kept_word}
use Rattle.area.proofs.Flags.{put-kept}
use Rattle.definition.specs.Syntax.{Bytes, Identifier, Space, types, ExternType, Own, Source}
use Rattle.definition.specs.Syntax.{FieldRec, type_r, import_r, item_r, export_r, start_r, elem_r, data_r, Rec, field, instr, folded, body_end, Body}
use Rattle.definition.specs.Reader.{got}
use Rattle.definition.specs.Instructions.{Inside}
use Rattle.definition.specs.Records.{field_rec}
use Rattle.definition.specs.Spaces.{source_space, extern_space, own_space, segments, brings, count}
use Rattle.definition.specs.Read as Read
use Rattle.definition.specs.Read.{room, seen_after, items_after, record_in, one_record, at_end, nothing_seen, records, read}
use Rattle.definition.specs.Folded.{body_of}
use Rattle.definition.specs.Deinline.{Numbered, source_fields, fields_of, deinline_from, deinline}
use Rattle.definition.specs.Types.{declared_by, declared}
use Rattle.laws.proofs.Backwards.{came}
use Rattle.laws.proofs.Bodies.{no_field}
use Rattle.laws.proofs.Reading.{records_end, records_full, accepted-next}
use Rattle.reread.proofs.Gives.{RoomyField, roomy}
use Rattle.stream.specs.Pass.{used_after, named_after, end_of, pass, passed, Reads}
use Rattle.counting.specs.Counting.{count_words}
use Rattle.stream.proofs.Model.{pass_end, pass-got}
use Rattle.walk.specs.Walk.{begin, ends_from, fields_in}
use Rattle.passes.proofs.Join.{fields_in_lem}
use Rattle.passes.proofs.Begin.{area-is, left}

-- ## The types that a field brings

module _ (items : List Space) where
  extern_types : {T : Type 0} (d : ExternType T) → count types (extern_space d ∷ items) ≡ count types items
  unfolding count extern_space
  extern_types (Syntax.func t) = omega arith
  extern_types (Syntax.table t) = omega arith
  extern_types (Syntax.mem l) = omega arith
  extern_types (Syntax.global g) = omega arith

  own-types : (o : Own Identifier) → count types (own_space o ∷ items) ≡ count types items
  unfolding count own_space
  own-types (Syntax.own_func t ls) = omega arith
  own-types (Syntax.own_table t) = omega arith
  own-types (Syntax.own_mem l) = omega arith
  own-types (Syntax.own_global t c) = omega arith

  source-types : (x : Source Identifier) → count types ((source_space x ∷ segments x) ++ items) ≡ count types items
  unfolding count source_space segments
  source-types (Syntax.own o) = own-types o
  source-types (Syntax.imported n d) = extern_types d
  source-types (Syntax.table_of w xs) = omega arith
  source-types (Syntax.mem_of w d) = omega arith

  module _ (r : ℕ) (next : Space → ℕ) (b : Body Identifier) where
    -- as many as its fields declare
    field-types : (f : FieldRec Identifier) → count types (brings f ++ items) ≡ count types items + length (declared (map (λ x. (r, x)) (fields_of next f b)))
    unfolding count brings fields_of declared declared_by
    field-types (type_r i t) = omega arith
    field-types (import_r n i d) = extern_types d ∙ omega arith
    field-types (item_r i es x) =
        let e : length (declared (map (λ z. (r, z)) (map (λ e. Syntax.export_f e (source_space x) (Syntax.own_index (next (source_space x)))) es ++ source_fields i (next (source_space x)) x b))) ≡ 0 =
        ap length (item-declares r i b (source_space x) (next (source_space x)) es x) in
        source-types x ∙ omega arith
    field-types (export_r n k x) = omega arith
    field-types (start_r x) = omega arith
    field-types (elem_r i m xs) = omega arith
    field-types (data_r i m d) = omega arith

-- a type that is read has room
module _ (seen : Read.Seen) (s : Bytes) (here next : ℕ) (few : count types seen.items ≤ 256) where
  roomy_types : (f : FieldRec Identifier) → RoomyField (room seen) f → count types (brings f ++ seen.items) ≤ 256
  unfolding count brings room
  roomy_types (type_r i t) v = let l : count types seen.items < 256 = ltb-true _ _ v in omega arith
  roomy_types (import_r n i d) v = rw (extern_types seen.items d) few
  roomy_types (item_r i es x) v = rw (source-types seen.items x) few
  roomy_types (export_r n k x) v = few
  roomy_types (start_r x) v = few
  roomy_types (elem_r i m xs) v = omega arith
  roomy_types (data_r i m d) v = omega arith

  few-types : (f : FieldRec Identifier) → one_record seen s here ≡ got (field f) next → count types (brings f ++ seen.items) ≤ 256
  unfolding one_record
  few-types f e = go seen.body e
    where
      go : (b : Option Inside) → record_in (room seen) b s here ≡ got (field f) next → count types (brings f ++ seen.items) ≤ 256
      go none e =
          let c = came (field_rec (room seen) s here) e in
          let d = c.rest in
          let i : c.value ≡ f = cc in
          rw (← i) (roomy_types c.value (roomy (room seen) s here c.value c.next c.first))
      go (some i) e = absurd (no_field i s here f next e)

-- ## All records

-- from what was seen before to what is seen at the end, as many types as are declared, and 256 at most
record Counted (r : ℕ) (seen seen' : Read.Seen) (rs : List (Rec Identifier)) : Type 0 where
  sum : count types seen'.items ≡ count types seen.items + length (declared (deinline_from r seen.items rs))
  few : count types seen'.items ≤ 256

counted_end : (r : ℕ) (seen : Read.Seen) (rs : List (Rec Identifier)) → count types seen.items ≤ 256 → at_end r seen.body ≡ ok rs → Counted r seen seen rs
unfolding deinline_from declared
counted_end r seen rs few e = let d = empty seen.body e in record { sum = rw d (omega arith); few = few }
  where
    empty : (b : Option Inside) → at_end r b ≡ ok rs → rs ≡ []
    empty none e = cc
    empty (some i) e = let z : ◌≡◌ {A = ℕ} 0 1 = cc in absurd (omega arith)

-- one record more
counted-more : (r : ℕ) (seen : Read.Seen) (x : Rec Identifier) (s : Bytes) (here next : ℕ) (seen' : Read.Seen) (rest : List (Rec Identifier)) → one_record seen s here ≡ got x next
    → Counted (r + 1) (seen_after seen x) seen' rest → Counted r seen seen' (x ∷ rest)
unfolding deinline_from seen_after items_after
counted-more r seen (field f) s here next seen' rest e h =
    let a = field-types seen.items r (λ k. count k seen.items) (body_of (r + 1) rest) f in
    let fs : Numbered Identifier = map (λ x. (r, x)) (fields_of (λ k. count k seen.items) f (body_of (r + 1) rest)) in
    let gs : Numbered Identifier = deinline_from (r + 1) (brings f ++ seen.items) rest in
    let b : length (declared (fs ++ gs)) ≡ length (declared fs) + length (declared gs) = ap length (declared-append fs gs) ∙ length-append (declared fs) (declared gs) in
    record { sum = omega (arith, h.sum, a, b); few = h.few }
counted-more r seen (instr y) s here next seen' rest e h = record { sum = h.sum; few = h.few }
counted-more r seen (folded y m) s here next seen' rest e h = record { sum = h.sum; few = h.few }
counted-more r seen body_end s here next seen' rest e h = record { sum = h.sum; few = h.few }

few-after : (seen : Read.Seen) (x : Rec Identifier) (s : Bytes) (here next : ℕ) → count types seen.items ≤ 256 → one_record seen s here ≡ got x next
    → count types (seen_after seen x).items ≤ 256
unfolding seen_after items_after
few-after seen (field f) s here next few e = few-types seen s here next few f e
few-after seen (instr y) s here next few e = few
few-after seen (folded y m) s here next few e = few
few-after seen body_end s here next few e = few

counted-all : (left r : ℕ) (seen : Read.Seen) (used named : Bool) (ends : List ℕ) (s : Bytes) (here : ℕ) (rs : List (Rec Identifier)) → count types seen.items ≤ 256
    → records left r seen s here ≡ ok rs → Counted r seen (pass left r seen used named ends s here).seen rs
counted-all zero r seen used named ends s here rs few e = go (dec_le (length s) here)
  where
    go : Dec (length s ≤ here) → Counted r seen (pass zero r seen used named ends s here).seen rs
    go (yes h) = rw (pass_end r seen used named ends s here zero h) (counted_end r seen rs few (sym (records_end r seen s here zero h) ∙ e))
    go (no h) =
        let d = sym (records_full r seen s here zero (omega arith) refl) ∙ e in
        let z : ◌≡◌ {A = ℕ} 0 1 = cc in absurd (omega arith)
counted-all (suc n) r seen used named ends s here rs few e = go (dec_le (length s) here) (λ seen' used' named' ends' next rest. counted-all n (r + 1) seen' used' named' ends' s next rest)
  where
    Again : Type 0
    Again = (seen' : Read.Seen) (used' named' : Bool) (ends' : List ℕ) (next : ℕ) (rest : List (Rec Identifier)) → count types seen'.items ≤ 256
        → records n (r + 1) seen' s next ≡ ok rest → Counted (r + 1) seen' (pass n (r + 1) seen' used' named' ends' s next).seen rest

    go : Dec (length s ≤ here) → Again → Counted r seen (pass (suc n) r seen used named ends s here).seen rs
    go (yes h) ih = rw (pass_end r seen used named ends s here (suc n) h) (counted_end r seen rs few (sym (records_end r seen s here (suc n) h) ∙ e))
    go (no h) ih =
        let l : here < length s = omega arith in
        let v = accepted-next n r seen s here rs l e in
        let m : suc n - 1 ≡ n = omega arith in
        let i = v.is in
        rw (i, pass-got r seen used named ends s here (suc n) v.rec v.next l (omega arith) v.reads, m)
        (counted-more r seen v.rec s here v.next _ v.rest v.reads
        (ih (seen_after seen v.rec) (used_after used v.rec) (named_after named v.rec) (ends ++ end_of used v.rec v.next (r + 1)) v.next v.rest
        (few-after seen v.rec s here v.next few v.reads) v.goes_on))

-- ## A whole stream

types-counted : (s : Bytes) (rs : List (Rec Identifier)) → read s ≡ ok rs
    → (count types (passed s).seen.items ≡ length (declared (deinline rs))) × (count types (passed s).seen.items ≤ 256)
unfolding read passed nothing_seen count deinline
types-counted s rs e = let h = counted-all 4096 0 nothing_seen false false [] s 0 rs (omega arith) e in (omega (arith, h.sum), h.few)

-- the fifth of the words that are put first
fifth : (w : List ℕ) (seen : Read.Seen) → 7 ≤ length w → get_or (sets w COUNTS (count_words seen)) DECLARED 0 ≡ min (count types seen.items) 256
unfolding count_words
fifth w seen h = ap (λ l. get_or l DECLARED 0) (sets-eq (count_words seen) w COUNTS h)

module _ (s : Bytes) (w w' : List ℕ) (n : ℕ) (v : Reads s w (Ok n) w') where
  -- reading leaves how many types are declared
  pub reads-declared : get_or w' DECLARED 0 ≡ length (declared (fields_in s))
  reads-declared =
      let x = left s w w' n v in
      let t = types-counted s x.recs x.is in
      let counts = sets (sets w ENDS (ends_from 4096 begin s)) COUNTS (count_words (passed s).seen) in
      let a : w' ≡ flag_put DATA_NAMED counts (passed s).named = x.leaves ∙ area-is s w x.recs x.is in
      let l : 7 ≤ length (sets w ENDS (ends_from 4096 begin s)) = rw (length-sets w ENDS (ends_from 4096 begin s)) (omega (arith, x.long)) in
      let c : min (count types (passed s).seen.items) 256 ≡ count types (passed s).seen.items = omega (arith, t.1) in
      ap (λ l. get_or l DECLARED 0) a ∙ kept_word (put-kept counts DATA_NAMED (passed s).named) DECLARED (omega arith) ∙ fifth (sets w ENDS (ends_from 4096 begin s)) (passed s).seen l ∙ c ∙ t.0 ∙ sym (ap (λ (l : Numbered Identifier). length (declared l)) (fields_in_lem s x.recs x.is))
