-- The lengths that a tally gives are those of the definition, up to 2 ^ 63.
use Rattle.std.specs.Prelude.{if◌then◌else◌}
use Prim.Native.Nat.{ℕ, zero, suc, ◌+◌, ◌-◌, ◌^◌, ◌≤◌, ◌<◌}
use mathlib.Core.Path.{◌≡◌, refl, sym, ◌∙◌, ap}
use mathlib.Core.Bool.{Bool, true, false, ◌||◌}
use mathlib.Core.List.{List, [], ◌∷◌, ◌++◌, map, append_assoc}
use lib.Dec.{eqb}
use lib.ListN.{length, get_or, replicate, length-append}
use native.Mathlib.Decide.{dec_le}
use native.Mathlib.Omega.{arith}
use borrow.Author.Tests.{eq-eqb, ne_eqb}
use Rattle.definition.specs.Syntax.{Bytes, FuncType}
use Rattle.definition.specs.Binary.{u, sized, func_type, in_section, joined, content, section_of, section, types_size, preamble}
use Rattle.emit.specs.Put.{past}
use Rattle.area.specs.Layout.{BYTES, SIZE}
use Rattle.deinline.specs.Entry.{Entries}
use Rattle.kept.specs.Sections.{IMPORT, START, CODE, DATAS, DATA_COUNT, SECTIONS}
use Rattle.kept.specs.Tally.{no_tally, Slots}
use Rattle.kept.specs.declared.tally.Tally.{Tally}
use Rattle.kept.proofs.Tallies.{size_is, count-is}
use Rattle.type_table.specs.Table.{types_in}
use Rattle.type_table.proofs.Sizes.{u-few, all_small}
use Rattle.module.specs.Length.{Counted, content_len, sized_len, section_len, types_len, lens_from, count_len, module_len, sections_from, count_section, all_sections, type_section}
use Rattle.sections.specs.Write.{Typed}
use Rattle.module.proofs.Full.{u-only}
use Rattle.module.proofs.Order.{data_least}

-- ## Numbers that saturate

pub past-past : (a m n : ℕ) → past (past a m) n ≡ past a (m + n)
unfolding past
past-past a m n = omega arith

pub past_measured : (a n : ℕ) → past a (past 0 n) ≡ past a n
unfolding past
past_measured a n = omega arith

pub past-from : (a n : ℕ) → a ≤ 2 ^ 63 → past a n ≡ past 0 (a + n)
unfolding past
past-from a n h = omega arith

-- what has come so far is more than any place
past_full : (a b n : ℕ) → a ≤ 2 ^ 63 → b ≤ 2 ^ 63 → 2 ^ 63 ≤ n → past a n ≡ past b n
unfolding past
past_full a b n g h k = omega arith

pub past-none : (a : ℕ) → past a 0 ≡ a
unfolding past
past-none a = omega arith

not_none : (n : ℕ) → past 0 (suc n) ≡ 0 → ⊥
unfolding past
not_none n e = omega arith

past_one : (m : ℕ) → m ≤ 10 → past 1 m ≡ 1 + m
unfolding past
past_one m h = omega arith

exact : (n : ℕ) → n < 2 ^ 63 → past 0 n ≡ n
unfolding past
exact n h = omega arith

past-most : (a n : ℕ) → a ≤ 2 ^ 63 → past a n ≤ 2 ^ 63
unfolding past
past-most a n h = omega arith

-- whatever stands before bytes that have saturated
saturated : (o c n m : ℕ) → o ≤ 2 ^ 63 → 2 ^ 63 ≤ n → n ≤ m → past (past o c) n ≡ past o m
unfolding past
saturated o c n m h g k = omega arith

-- a number's groups before so many bytes: where the number may have saturated, the bytes have
groups-before : (a m n p q : ℕ) → a ≤ 1 → m ≤ n → p ≡ a + length (u (past 0 m)) → q ≡ a + length (u m) → past p n ≡ past 0 (q + n)
groups-before a m n p q g h x y = go (dec_le (2 ^ 63) m)
  where
    go : Dec (2 ^ 63 ≤ m) → past p n ≡ past 0 (q + n)
    go (yes z) = past_full p q n (omega (arith, u-few (past 0 m))) (omega (arith, u-few m)) (omega arith) ∙ past-from q n (omega (arith, u-few m))
    go (no z) =
        let e : past 0 m ≡ m = exact m (omega arith) in
        let d : p ≡ q = x ∙ rw e (sym y) in
        rw d (past-from q n (omega (arith, u-few m)))

-- ## One section

pub content-long : (k size count : ℕ) (es : List Bytes) → k < SECTIONS → length es ≤ length (joined es) → size ≡ past 0 (length (joined es)) → count ≡ past 0 (length es)
    → content_len k size count ≡ past 0 (length (content k es))
unfolding content_len content
content-long k size count es h g d e = rw (ne_eqb k DATA_COUNT (λ z. omega arith)) (go (eqb k START))
  where
    go : (t : Bool) → (if t then size else past (length (u count)) size) ≡ past 0 (length (if t || false then joined es else u (length es) ++ joined es))
    go true = d
    go false =
        rw (d, e, length-append (u (length es)) (joined es))
        (past_measured (length (u (past 0 (length es)))) (length (joined es)) ∙ groups-before 0 (length es) (length (joined es)) _ _ (omega arith) g (omega arith) (omega arith))

pub sized-long : (k n : ℕ) (bs : Bytes) → n ≡ past 0 (length bs) → sized_len n ≡ past 0 (length (k ∷ sized bs))
unfolding sized_len sized
sized-long k n bs e =
    rw (e, length-append (u (length bs)) bs)
    (past_measured (past 1 (length (u (past 0 (length bs))))) (length bs)
    ∙ groups-before 1 (length bs) (length bs) _ (1 + length (u (length bs))) (omega arith) (omega arith) (past_one _ (u-few (past 0 (length bs)))) refl
    ∙ ap (past 0) (more (length (u (length bs))) (length bs)))
  where
    more : (m n : ℕ) → 1 + m + n ≡ suc (m + n)
    more m n = omega arith

-- a section of entries of which none is empty, by the numbers of a tally
pub entries-long : (t : Tally) (k : ℕ) (bs : List Bytes) → k < SECTIONS → get_or t.sizes k 0 ≡ past 0 (length (joined bs)) → get_or t.counts k 0 ≡ past 0 (length bs) → length bs ≤ length (joined bs)
    → section_len t k ≡ past 0 (length (section_of k bs))
unfolding section_len
entries-long t k [] h d e g =
    let z : eqb (get_or t.counts k 0) 0 ≡ true = eq-eqb _ _ (e ∙ past-none 0) in
    rw z (sym (past-none 0))
entries-long t k (b ∷ bs) h d e g =
    let z : eqb (get_or t.counts k 0) 0 ≡ false = ne_eqb _ _ (λ x. not_none (length bs) (sym e ∙ x)) in
    rw z (sized-long k _ (content k (b ∷ bs)) (content-long k _ _ (b ∷ bs) h g d e))

replicate-none : (n k : ℕ) → get_or (replicate {A = ℕ} n 0) k 0 ≡ 0
replicate-none zero k = refl
replicate-none (suc n) zero = refl
replicate-none (suc n) (suc k) = replicate-none n k

slots : Slots no_tally
slots = record { sizes = refl; counts = refl }

-- ## All sections

preamble-long : (bs : Bytes) → length (preamble ++ bs) ≡ 8 + length bs
unfolding preamble
preamble-long bs = omega arith

module _ {t : Tally} {es : Entries} (c : Counted t es) where
  pub size_of : (k : ℕ) → k < SECTIONS → get_or t.sizes k 0 ≡ past 0 (length (joined (in_section k es)))
  size_of k h = rw c.tally (size_is k h no_tally es slots ∙ ap (λ n. past n (length (joined (in_section k es)))) (replicate-none SECTIONS k))

  pub count_of : (k : ℕ) → k < SECTIONS → get_or t.counts k 0 ≡ past 0 (length (in_section k es))
  count_of k h = rw c.tally (count-is k h no_tally es slots ∙ ap (λ n. past n (length (in_section k es))) (replicate-none SECTIONS k))

  pub section-long : (k : ℕ) → k < SECTIONS → section_len t k ≡ past 0 (length (section es k))
  unfolding section
  section-long k h = entries-long t k (in_section k es) h (size_of k h) (count_of k h) (c.good.each k)

  pub sections-from : (n k o : ℕ) → n + k ≤ SECTIONS → lens_from n k o t ≡ past o (length (sections_from n k es))
  unfolding lens_from sections_from
  sections-from zero k o h = sym (past-none o)
  sections-from (suc n) k o h =
      sections-from n (k + 1) (past o (section_len t k)) (omega arith)
      ∙ rw (section-long k (omega arith), past_measured o (length (section es k)))
      (past-past o (length (section es k)) (length (sections_from n (k + 1) es)) ∙ ap (past o) (sym (length-append (section es k) (sections_from n (k + 1) es))))

  -- the data count, which may have saturated if the data have
  count_long : (named : Bool) (o : ℕ) → o ≤ 2 ^ 63
      → past (past o (count_len named t)) (length (sections_from (SECTIONS - CODE) CODE es)) ≡ past o (length (count_section named (length (in_section DATAS es)) ++ sections_from (SECTIONS - CODE) CODE es))
  unfolding count_len count_section
  count_long false o h = rw (past-none o) refl
  count_long true o h = go (dec_le (2 ^ 63) m)
    where
      m : ℕ
      m = length (in_section DATAS es)

      bs : Bytes
      bs = sections_from (SECTIONS - CODE) CODE es

      go : Dec (2 ^ 63 ≤ m) → past (past o (sized_len (length (u (get_or t.counts DATAS 0))))) (length bs) ≡ past o (length (DATA_COUNT ∷ sized (u m) ++ bs))
      go (yes z) = let l = data_least es c.good in saturated o _ (length bs) _ h (omega arith) (omega (arith, length-append (sized (u m)) bs))
      go (no z) =
          let a : get_or t.counts DATAS 0 ≡ m = count_of DATAS (omega arith) ∙ exact m (omega arith) in
          let b : sized_len (length (u m)) ≡ past 0 (length (DATA_COUNT ∷ sized (u m))) = sized-long DATA_COUNT _ (u m) (sym (exact _ (omega (arith, u-few m)))) in
          rw (a, b, past_measured o (length (DATA_COUNT ∷ sized (u m)))) (past-past o _ (length bs) ∙ ap (past o) (sym (length-append (DATA_COUNT ∷ sized (u m)) bs)))

  pub all-long : (named : Bool) (o : ℕ) → o ≤ 2 ^ 63 → lens_from (SECTIONS - CODE) CODE (past (lens_from (CODE - IMPORT) IMPORT o t) (count_len named t)) t ≡ past o (length (all_sections named es))
  unfolding all_sections
  all-long named o h =
      let before = sections_from (CODE - IMPORT) IMPORT es in
      let count = count_section named (length (in_section DATAS es)) in
      let last = sections_from (SECTIONS - CODE) CODE es in
      sections-from (SECTIONS - CODE) CODE _ (omega arith)
      ∙ rw (sections-from (CODE - IMPORT) IMPORT o (omega arith))
      (count_long named (past o (length before)) (past-most o (length before) h)
      ∙ past-past o (length before) (length (count ++ last))
      ∙ ap (past o) (sym (length-append before (count ++ last)) ∙ ap length (sym (append_assoc before count last))))

-- ## The module

-- a content has the groups of its count at least
pub content-some : (ts : List FuncType) (t : FuncType) → 1 ≤ length (content 1 (map func_type (t ∷ ts)))
unfolding content
content-some ts t = omega (arith, length-append (u (length (map func_type (t ∷ ts)))) (joined (map func_type (t ∷ ts))), u-only (length (map func_type (t ∷ ts))))

-- the section of types, by the size beside them
pub types_long : (s w : List ℕ) → Typed s w → length s ≤ BYTES → types_len (get_or w SIZE 0) ≡ past 0 (length (type_section s w))
unfolding types_len type_section types_size
types_long s w v h = let small = all_small s w h in go (types_in s w) v.size small
  where
    go : (ts : List FuncType) → get_or w SIZE 0 ≡ types_size ts → types_size ts < 2 ^ 32
        → (if eqb (get_or w SIZE 0) 0 then 0 else sized_len (get_or w SIZE 0)) ≡ past 0 (length (section_of 1 (map func_type ts)))
    go [] e g = rw e (sym (past-none 0))
    go (t ∷ ts) e g =
        let z : eqb (get_or w SIZE 0) 0 ≡ false = ne_eqb (get_or w SIZE 0) 0 (λ x. omega (arith, content-some ts t)) in
        rw z (sized-long 1 _ (content 1 (map func_type (t ∷ ts))) (e ∙ sym (exact (length (content 1 (map func_type (t ∷ ts)))) (omega arith))))

-- with the tally of the other sections
pub module_long : (size : ℕ) (named : Bool) (t : Tally) (first : Bytes) (es : Entries) → types_len size ≡ past 0 (length first) → Counted t es
    → module_len size named t ≡ past 0 (length (preamble ++ (first ++ all_sections named es)))
unfolding module_len
module_long size named t first es e c =
    let rest = all_sections named es in
    all-long c named (past 8 (types_len size)) (past-most 8 (types_len size) (omega arith))
    ∙ rw (e, past_measured 8 (length first))
    (past-past 8 (length first) (length rest)
    ∙ past-from 8 (length first + length rest) (omega arith)
    ∙ ap (past 0) (sym (preamble-long (first ++ rest) ∙ ap (λ n. 8 + n) (length-append first rest))))
