-- A section: its entries, its content, its head; and all of them.
use Prim.Native.Nat.{ℕ, zero, suc, ◌+◌, ◌-◌, ◌*◌, ◌^◌, ◌≤◌, ◌<◌, min}
use mathlib.Core.Path.{◌≡◌, refl, sym, ◌∙◌, ap}
use mathlib.Core.Bool.{Bool, true, false}
use mathlib.Core.List.{List, [], ◌∷◌, ◌++◌, map}
use lib.ListN.{length, get_or, length-append, length-map}
use native.Mathlib.Decide.{dec_le}
use native.Mathlib.Omega.{arith}
use borrow.Author.Tests.{eq-eqb, ne_eqb}
use Rattle.definition.specs.Basic.{concat_map, any}
use Rattle.definition.specs.Syntax.{Bytes, FuncType}
use Rattle.definition.specs.Names.{resolve_all}
use Rattle.definition.specs.Binary.{u, sized, func_type, entries, in_section, names_data, joined, content, section_of, section, types_size, preamble, module'}
use Rattle.emit.specs.Put.{Put, past}
use Rattle.emit.proofs.Laws.{put-none, put_then, put_is}
use Rattle.binary.proofs.Putting.{Putting, putting_begin, putting_more, putting_done, putting_long}
use Rattle.area.specs.Flags.{data_named_in}
use Rattle.area.specs.Layout.{DATA_NAMED, LOCALS, SIZE, TOTAL, TYPES}
use Rattle.area.specs.Kept.{Kept}
use Rattle.area.proofs.Flags.{flag-kept}
use Rattle.area.proofs.Kept.{kept_same, kept_then, kept_less, kept_word}
use Rattle.type_table.specs.Table.{types_in}
use Rattle.type_table.proofs.Sizes.{types-written}
use Rattle.walk.specs.Walk.{begin, fields_in}
use Rattle.walk.proofs.Steps.{ahead-kept}
use Rattle.scope.specs.Scope.{scope_in}
use Rattle.deinline.specs.Entry.{Entries, entries_of}
use Rattle.kept.specs.Sections.{TYPE, IMPORT, START, CODE, DATAS, DATA_COUNT, SECTIONS}
use Rattle.kept.specs.Tally.{tallies, no_tally}
use Rattle.kept.specs.Content.{kept, bytes_in}
use Rattle.kept.specs.declared.tally.Tally.{Tally}
use Rattle.module.specs.Length.{Good, Counted, Supplied, content_len, module_len, sections_from, count_section, all_sections, type_section}
use Rattle.sections.specs.Write.{Writes, Writable, Held, Counts, all_entries, kept_items, module_items}
use Rattle.module.proofs.Full.{good-items}
use Rattle.module.proofs.Lengths.{past_measured, size_of, count_of, content-long, content-some, types_long, module_long}
use Rattle.module.proofs.Naming.{named-items}
use Rattle.module.proofs.Order.{module_is, data_least}
use Rattle.sections.proofs.Items.{first-section, field-items, others_same, types-count}
use Rattle.sections.proofs.Emitting.{scope-same, types_same, recalled-same}

-- ## The work area

-- all entries are as they were
pub all_same : (s w w' : List ℕ) → Kept LOCALS w w' → all_entries s w' ≡ all_entries s w
unfolding all_entries
all_same s w w' k = rw (scope-same s w w' k) refl

pub writable-same : (s w w' : List ℕ) → Kept LOCALS w w' → Writable s w → Writable s w'
writable-same s w w' k v =
    let d = scope-same s w w' k in
    let e = types_same s w w' k in
    record {
      left = record {
        stream = v.left.stream;
        room = rw k.long v.left.room;
        ahead = ahead-kept s w w' begin (kept_less TYPES LOCALS (omega arith) k) v.left.ahead;
        recalled = recalled-same s w w' _ k v.left.recalled;
      };
      typed = record { all = rw e v.typed.all; size = rw (e, kept_word k SIZE (omega arith)) v.typed.size };
      fine = rw d v.fine;
    }

-- ## The content

module _ (k : ℕ) (s w w' old : List ℕ) (at : ℕ) where
  -- those of the fields
  pub entries-put : (new : Bytes) (r : ℕ) → Writes (bytes_in k (entries_of (scope_in s w) (fields_in s))) old at r new w w' → Writes (joined (in_section k (all_entries s w))) old at r new w w'
  unfolding all_entries bytes_in
  entries-put new r p = p

  -- they end where all do
  pub entries_reach : (size end : ℕ) → size ≡ past 0 (length (joined (in_section k (all_entries s w)))) → end ≡ past at size
      → past at (length (bytes_in k (entries_of (scope_in s w) (fields_in s)))) ≤ end
  unfolding all_entries bytes_in
  entries_reach size end e d = rw (d, e, past_measured at (length (joined (in_section k (kept (entries_of (scope_in s w) (fields_in s))))))) (omega arith)

  pub content-start : (r : ℕ) (new : Bytes) → k ≡ START → Writes (joined (in_section k (all_entries s w))) old at r new w w'
      → Writes (content k (in_section k (all_entries s w))) old at r new w w'
  unfolding content
  content-start r new h p = rw (eq-eqb k START h) p

-- where the count saturates, so does the place
over : (at x y l r q : ℕ) → r ≡ past at x → q ≡ past r y → 2 ^ 63 ≤ y → q ≡ past at (l + y)
unfolding past
over at x y l r q e f h = omega arith

pub counted-put : (es : List Bytes) {a b c : Bytes} {n at r q : ℕ} → length es ≤ length (joined es) → n ≡ past 0 (length es) → Put a at (u n) r b → Put b r (joined es) q c
    → Put a at (u (length es) ++ joined es) q c
unfolding past
counted-put es {a} {b} {c} {n} {at} {r} {q} s m x y = go (dec_le (2 ^ 63) (length es))
  where
    go : Dec (2 ^ 63 ≤ length es) → Put a at (u (length es) ++ joined es) q c
    go (no h) = let e : n ≡ length es = omega (arith, m) in rw (← e) (put_then x y)
    go (yes h) = record {
      place = rw (length-append (u (length es)) (joined es)) (over at (length (u n)) (length (joined es)) (length (u (length es))) r q x.place y.place (omega arith));
      bytes = λ g. absurd (omega (arith, length-append (u (length es)) (joined es)));
      long = y.long ∙ x.long;
      short = x.short;
    }

module _ (k : ℕ) (s w w' old : List ℕ) (at : ℕ) where
  pub content-counted : (n r q : ℕ) (mid new : Bytes) → k < SECTIONS → (k ≡ START → ⊥) → Counts n k (all_entries s w) → Put old at (u n) r mid
      → Writes (joined (in_section k (all_entries s w))) mid r q new w w' → Writes (content k (in_section k (all_entries s w))) old at q new w w'
  unfolding content
  content-counted n r q mid new l h c x p = rw (ne_eqb k START h, ne_eqb k DATA_COUNT (λ z. omega arith)) (record {
    put = counted-put (in_section k (all_entries s w)) c.few c.number x p.put;
    area = p.area;
  })

-- ## One section

suc_plus : (m n : ℕ) → suc m + n ≡ suc (m + n)
suc_plus m n = omega arith

-- bytes after the number of their section and their length, where it may have saturated
pub headed_put : (k : ℕ) {a b c bs : Bytes} {n at r q : ℕ} → n ≡ past 0 (length bs) → Put a at (k ∷ u n) r b → Put b r bs q c → Put a at (k ∷ sized bs) q c
unfolding past sized
headed_put k {a} {b} {c} {bs} {n} {at} {r} {q} m x y = go (dec_le (2 ^ 63) (length bs))
  where
    go : Dec (2 ^ 63 ≤ length bs) → Put a at (k ∷ u (length bs) ++ bs) q c
    go (no h) = let e : n ≡ length bs = omega (arith, m) in rw (← e) (put_then x y)
    go (yes h) = record {
      place = rw (length-append (u (length bs)) bs) (over at (suc (length (u n))) (length bs) (suc (length (u (length bs)))) r q x.place y.place (omega arith) ∙ ap (past at) (suc_plus (length (u (length bs))) (length bs)));
      bytes = λ g. absurd (omega (arith, length-append (u (length bs)) bs));
      long = y.long ∙ x.long;
      short = x.short;
    }

past-none : past 0 0 ≡ 0
unfolding past
past-none = omega arith

pub past-some : (n : ℕ) → past 0 (suc n) ≡ 0 → ⊥
unfolding past
past-some n e = omega arith

module _ (t : Tally) (es : Entries) (c : Counted t es) (k : ℕ) (h : k < SECTIONS) where
  pub size_is : get_or t.sizes k 0 ≡ past 0 (length (joined (in_section k es)))
  size_is = size_of c k h

  pub counts_are : Counts (get_or t.counts k 0) k es
  counts_are = record { number = count_of c k h; few = c.good.each k }

  pub section-none : (old : Bytes) (at : ℕ) (w : List ℕ) → get_or t.counts k 0 ≡ 0 → length old * 1 < 2 ^ 63 → Writes (section es k) old at at old w w
  unfolding section
  section-none old at w z g = go (in_section k es) (count_of c k h)
    where
      go : (bs : List Bytes) → get_or t.counts k 0 ≡ past 0 (length bs) → Writes (section_of k bs) old at at old w w
      go [] e = record { put = put-none at (omega arith); area = kept_same LOCALS w }
      go (b ∷ bs) e = absurd (past-some (length bs) (sym e ∙ z))

  pub section-some : (n a q : ℕ) (old mid new : Bytes) (at : ℕ) (w w' : List ℕ) → (get_or t.counts k 0 ≡ 0 → ⊥) → n ≡ content_len k (get_or t.sizes k 0) (get_or t.counts k 0)
      → Put old at (k ∷ u n) a mid → Writes (content k (in_section k es)) mid a q new w w' → Writes (section es k) old at q new w w'
  unfolding section
  section-some n a q old mid new at w w' z d x p =
      go (in_section k es) (count_of c k h) (d ∙ content-long k _ _ (in_section k es) h (c.good.each k) (size_of c k h) (count_of c k h)) p.put
    where
      go : (bs : List Bytes) → get_or t.counts k 0 ≡ past 0 (length bs) → n ≡ past 0 (length (content k bs)) → Put mid a (content k bs) q new → Writes (section_of k bs) old at q new w w'
      go [] e m y = absurd (z (e ∙ past-none))
      go (b ∷ bs) e m y = record { put = headed_put k m x y; area = p.area }

-- ## All sections

-- those before section k are put
pub record Sectioning (t : Tally) (kept s w₀ old : List ℕ) (at from to k o : ℕ) (out w : List ℕ) : Type 0 where
  pub supplied : Supplied t kept s w
  pub area : Kept LOCALS w₀ w
  pub put : Putting old at (sections_from (to - from) from (all_entries s w₀)) (sections_from (to - k) k (all_entries s w)) o out

pub sections-begin : (t : Tally) (kept s w old : List ℕ) (at from to : ℕ) → Supplied t kept s w → length old * 1 < 2 ^ 63
    → Sectioning t kept s w old at from to from at old w
sections-begin t kept s w old at from to v h = record {
  supplied = v;
  area = kept_same LOCALS w;
  put = putting_begin old at (sections_from (to - from) from (all_entries s w)) (sections_from (to - from) from (all_entries s w)) h refl;
}

-- what the writer has is there still
supplied_same : (t : Tally) (kept s w w' : List ℕ) → Kept LOCALS w w' → Supplied t kept s w → Supplied t kept s w'
supplied_same t kept s w w' k v = let z = all_same s w w' k in
    record { writable = writable-same s w w' k v.writable; held = rw z v.held; counted = rw z v.counted }

module _ (t : Tally) (kept s w₀ old : List ℕ) (at from to k o : ℕ) (out w : List ℕ) (v : Sectioning t kept s w₀ old at from to k o out w) where
  pub sections_again : (r : ℕ) (new w' : List ℕ) → k < to → Writes (section (all_entries s w) k) out o r new w w'
      → Sectioning t kept s w₀ old at from to (k + 1) r new w'
  unfolding sections_from
  sections_again r new w' h p =
      let m : to - k ≡ suc (to - (k + 1)) = omega arith in
      let z = all_same s w w' p.area in
      let u = v.put in
      record {
        supplied = supplied_same t kept s w w' p.area v.supplied;
        area = kept_then v.area p.area;
        put = rw z (putting_more (rw m at u) (section (all_entries s w) k) (sections_from (to - (k + 1)) (k + 1) (all_entries s w)) r new refl p.put);
      }

  pub sections-done : to ≤ k → Writes (sections_from (to - from) from (all_entries s w₀)) old at o out w₀ w
  unfolding sections_from
  sections-done h = let m : to - k ≡ 0 = omega arith in let u = v.put in record { put = putting_done (rw m at u) refl; area = v.area }

  pub sections-long : length out ≡ length old
  sections-long = putting_long v.put

  pub sections-area : length w ≡ length w₀
  sections-area = v.area.long

-- ## The data count

module _ (t : Tally) (w old : List ℕ) (at : ℕ) (b : Bool) (e : b ≡ data_named_in w) where
  pub count_none : b ≡ false → length old * 1 < 2 ^ 63 → Put old at (count_section (data_named_in w) (get_or t.counts DATAS 0)) at old
  unfolding count_section
  count_none f h = rw (← e, f) (put-none at (omega arith))

  pub count-some : (n a q : ℕ) (mid new : Bytes) → b ≡ true → n ≡ length (u (get_or t.counts DATAS 0)) → Put old at (DATA_COUNT ∷ u n) a mid → Put mid a (u (get_or t.counts DATAS 0)) q new
      → Put old at (count_section (data_named_in w) (get_or t.counts DATAS 0)) q new
  unfolding count_section sized
  count-some n a q mid new f d x y = rw (← e, f, ← d) (put_then x y)

-- after what stands before it, and before code and data: where it has saturated, so have the data
count-put : (named : Bool) (es : Entries) {a b c d before : Bytes} {n at p r q : ℕ} → Good es → n ≡ past 0 (length (in_section DATAS es)) → Put a at before p b
    → Put b p (count_section named n) r c → Put c r (sections_from (SECTIONS - CODE) CODE es) q d
    → Put a at (before ++ count_section named (length (in_section DATAS es)) ++ sections_from (SECTIONS - CODE) CODE es) q d
unfolding past
count-put named es {a} {b} {c} {d} {before} {n} {at} {p} {r} {q} g m x y z = go (dec_le (2 ^ 63) (length (in_section DATAS es)))
  where
    last : Bytes
    last = sections_from (SECTIONS - CODE) CODE es

    first : Bytes
    first = before ++ count_section named (length (in_section DATAS es))

    go : Dec (2 ^ 63 ≤ length (in_section DATAS es)) → Put a at (first ++ last) q d
    go (no h) = let e : n ≡ length (in_section DATAS es) = omega (arith, m) in rw (← e) (put_then (put_then x y) z)
    go (yes h) =
        let l = data_least es g in
        let v = put_then x y in
        record {
          place = rw (length-append first last) (over at _ (length last) (length first) r q v.place z.place (omega arith));
          bytes = λ k. absurd (omega (arith, length-append first last));
          long = z.long ∙ v.long;
          short = x.short;
        }

-- what the second run of sections needs
pub after_supplied : (t : Tally) (kept s w bs old mid w₁ : List ℕ) (at a : ℕ) → Writes bs old at a mid w w₁ → Supplied t kept s w → Supplied t kept s w₁
after_supplied t kept s w bs old mid w₁ at a x v = supplied_same t kept s w w₁ x.area v

module _ (t : Tally) (kept s w old : List ℕ) (at a : ℕ) (mid w₁ : List ℕ) (v : Supplied t kept s w)
    (x : Writes (sections_from (CODE - IMPORT) IMPORT (all_entries s w)) old at a mid w w₁) where
  pub all-put : (b q : ℕ) (late new w₂ : List ℕ) → Put mid a (count_section (data_named_in w₁) (get_or t.counts DATAS 0)) b late
      → Writes (sections_from (SECTIONS - CODE) CODE (all_entries s w₁)) late b q new w₁ w₂ → Writes (all_sections (data_named_in w) (all_entries s w)) old at q new w w₂
  unfolding all_sections
  all-put b q late new w₂ y z =
      let c = v.counted in
      let e = all_same s w w₁ x.area in
      let f = flag-kept DATA_NAMED x.area (omega arith) in
      let p = z.put in
      record {
        put = count-put (data_named_in w) (all_entries s w) c.good (count_of c DATAS (omega arith)) x.put (rw f at y) (rw e at p);
        area = kept_then x.area z.area;
      }

-- ## The section of types

module _ (s w : List ℕ) (size : ℕ) (is : size ≡ get_or w SIZE 0) (v : Writable s w) (old : Bytes) (at : ℕ) where
  -- without types
  pub types-none : size ≡ 0 → length old * 1 < 2 ^ 63 → Put old at (type_section s w) at old
  unfolding type_section types_size
  types-none z g = go (types_in s w) (sym is ∙ z) v.typed.size
    where
      go : (ts : List FuncType) → get_or w SIZE 0 ≡ 0 → get_or w SIZE 0 ≡ types_size ts → Put old at (section_of 1 (map func_type ts)) at old
      go [] d e = put-none at (omega arith)
      go (t ∷ ts) d e = absurd (omega (arith, content-some ts t))

  pub types-put : (n a b r : ℕ) (one two new : Bytes) → (size ≡ 0 → ⊥) → n ≡ min (get_or w TOTAL 0) 256
      → Put old at (1 ∷ u size) a one → Put one a (u n) b two → Put two b (joined (map func_type (types_in s w))) r new → Put old at (type_section s w) r new
  unfolding type_section types_size content
  types-put n a b r one two new z d x y q = go (types_in s w) (is ∙ v.typed.size) (d ∙ sym (types-count s w)) q
    where
      go : (ts : List FuncType) → size ≡ types_size ts → n ≡ length ts → Put two b (joined (map func_type ts)) r new → Put old at (section_of 1 (map func_type ts)) r new
      go [] e l q = absurd (z e)
      go (t ∷ ts) e l q =
          let f : length (map func_type (t ∷ ts)) ≡ n = length-map (t ∷ ts) func_type ∙ sym l in
          put_is (put_then x (put_then y q)) (rw (types-written t ts, e, f) refl)

-- ## The module

-- sections that have the same entries
sections-same : (left k : ℕ) (es fs : Entries) → 2 ≤ k → ((j : ℕ) → (j ≡ 1 → ⊥) → in_section j es ≡ in_section j fs) → sections_from left k es ≡ sections_from left k fs
unfolding sections_from section
sections-same zero k es fs h f = refl
sections-same (suc left) k es fs h f = rw (f k (λ e. omega arith), sections-same left (k + 1) es fs (omega arith) f) refl

all-same-sections : (named : Bool) (es fs : Entries) → ((j : ℕ) → (j ≡ TYPE → ⊥) → in_section j es ≡ in_section j fs) → all_sections named es ≡ all_sections named fs
unfolding all_sections
all-same-sections named es fs f = rw (sections-same (CODE - IMPORT) IMPORT es fs (omega arith) f, f DATAS (λ e. omega arith), sections-same (SECTIONS - CODE) CODE es fs (omega arith) f) refl

-- the section of types, and those that the fields' entries make
module_parts : (s w : List ℕ) → Writable s w → preamble ++ (type_section s w ++ all_sections (data_named_in w) (all_entries s w)) ≡ module' (module_items s w)
unfolding type_section
module_parts s w v =
    let is = module_items s w in
    rw (named-items s w v, ← first-section s w v, ← all-same-sections (any names_data is) (concat_map entries is) (all_entries s w) (others_same s w))
    (module_is is)

counted-all : (t : Tally) (s w : List ℕ) → t ≡ tallies no_tally (all_entries s w) → Counted t (all_entries s w)
counted-all t s w e = record { tally = e; good = rw (field-items s w) (good-items (kept_items (resolve_all (scope_in s w) (fields_in s)))) }

pub supplied_all : (t : Tally) (kept s w : List ℕ) → Writable s w → Held kept (all_entries s w) → t ≡ tallies no_tally (all_entries s w) → Supplied t kept s w
supplied_all t kept s w v h e = record { writable = v; held = h; counted = counted-all t s w e }

pub module_put : (s w w' old one two new : List ℕ) (a b q : ℕ) → Writable s w → Put old 0 preamble a one → Put one a (type_section s w) b two
    → Writes (all_sections (data_named_in w) (all_entries s w)) two b q new w w' → Writes (module' (module_items s w)) old 0 q new w w'
module_put s w w' old one two new a b q v x y p = record { put = put_is (put_then x (put_then y p.put)) (module_parts s w v); area = p.area }

-- what the size beside the types and the tally say of the module's length
pub module_len-is : (t : Tally) (s w : List ℕ) → Writable s w → t ≡ tallies no_tally (all_entries s w) → module_len (get_or w SIZE 0) (data_named_in w) t ≡ past 0 (length (module' (module_items s w)))
module_len-is t s w v e =
    module_long (get_or w SIZE 0) (data_named_in w) t (type_section s w) (all_entries s w) (types_long s w v.typed v.left.stream) (counted-all t s w e)
    ∙ ap (λ (z : Bytes). past 0 (length z)) (module_parts s w v)
