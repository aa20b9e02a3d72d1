-- The sections in their order: the data count, which no item brings, stands before code and data.
use Rattle.std.specs.Prelude.{if◌then◌else◌}
use Prim.Native.Nat.{ℕ, zero, suc, ◌+◌, ◌-◌, ◌≤◌, ◌<◌}
use mathlib.Core.Path.{◌≡◌, refl, sym, ◌∙◌, ap}
use mathlib.Core.Bool.{Bool, true, false, ◌||◌}
use mathlib.Core.List.{List, [], ◌∷◌, ◌++◌, append-nil, append_assoc}
use lib.Dec.{eqb}
use lib.ListN.{length, length-append}
use native.Mathlib.Omega.{arith}
use borrow.Author.Tests.{ne_eqb}
use Rattle.definition.specs.Basic.{concat_map, any}
use Rattle.definition.specs.Syntax.{Bytes, Item, type_i, import_i, func_i, table_i, mem_i, global_i, export_i, start_i, elem_i, data_i}
use Rattle.definition.specs.Binary.{u, sized, entries, in_section, names_data, data_count, joined, content, section_of, section, preamble, section_numbers, sections, module'}
use Rattle.laws.proofs.TypeSection.{section-append}
use Rattle.deinline.specs.Entry.{Entries}
use Rattle.kept.specs.Sections.{TYPE, IMPORT, CODE, DATAS, DATA_COUNT, SECTIONS}
use Rattle.module.specs.Length.{Good, sections_from, count_section, all_sections}

-- ## The entries of one section among those of items and the data count

item-none : (i : Item) → in_section DATA_COUNT (entries i) ≡ []
unfolding entries in_section
item-none (type_i t) = refl
item-none (import_i n d) = refl
item-none (func_i n ls os) = refl
item-none (table_i t) = refl
item-none (mem_i l) = refl
item-none (global_i t o) = refl
item-none (export_i n k x) = refl
item-none (start_i x) = refl
item-none (elem_i m ns) = refl
item-none (data_i m d) = refl

-- no item brings a data count
items-none : (is : List Item) → in_section DATA_COUNT (concat_map entries is) ≡ []
unfolding concat_map
items-none [] = unfold in_section in refl
items-none (i ∷ is) = section-append DATA_COUNT (entries i) (concat_map entries is) ∙ rw (item-none i, items-none is) refl

-- and the data count is an entry of no other section
count-other : (k : ℕ) (t : Bool) (b : Bytes) → k < SECTIONS → in_section k (if t then (DATA_COUNT, b) ∷ [] else []) ≡ []
unfolding in_section
count-other k true b h = rw (ne_eqb k DATA_COUNT (λ e. omega arith)) refl
count-other k false b h = refl

module _ (is : List Item) where
  abbrev own : Entries
  own = concat_map entries is

  section-other : (k : ℕ) → k < SECTIONS → section (own ++ data_count is) k ≡ section own k
  unfolding section data_count
  section-other k h =
      let a : in_section k (own ++ data_count is) ≡ in_section k own =
      section-append k own (data_count is) ∙ ap (λ (z : List Bytes). in_section k own ++ z) (count-other k (any names_data is) _ h) ∙ append-nil (in_section k own) in
      ap (section_of k) a

  section-count : section (own ++ data_count is) DATA_COUNT ≡ count_section (any names_data is) (length (in_section DATAS own))
  unfolding section data_count count_section
  section-count =
      let a : in_section DATA_COUNT (own ++ data_count is) ≡ in_section DATA_COUNT (data_count is) =
      section-append DATA_COUNT own (data_count is) ∙ ap (λ (z : List Bytes). z ++ in_section DATA_COUNT (data_count is)) (items-none is) in
      ap (section_of DATA_COUNT) a ∙ go (any names_data is) (u (length (in_section DATAS own)))
    where
      go : (t : Bool) (b : Bytes) → section_of DATA_COUNT (in_section DATA_COUNT (if t then (DATA_COUNT, b) ∷ [] else [])) ≡ (if t then DATA_COUNT ∷ sized b else [])
      go true b = unfold in_section content joined concat_map in ap (λ (z : Bytes). DATA_COUNT ∷ sized z) (append-nil b)
      go false b = unfold in_section in refl

  -- ## In their order

  abbrev numbers : ℕ → ℕ → List ℕ
  numbers zero k = []
  numbers (suc n) k = k ∷ numbers n (k + 1)

  run_then : (n k : ℕ) (ks : List ℕ) → n + k ≤ SECTIONS
      → sections_from n k own ++ concat_map (section (own ++ data_count is)) ks ≡ concat_map (section (own ++ data_count is)) (numbers n k ++ ks)
  unfolding sections_from concat_map
  run_then zero k ks h = refl
  run_then (suc n) k ks h =
      append_assoc (section own k) (sections_from n (k + 1) own) (concat_map (section (own ++ data_count is)) ks)
      ∙ rw (run_then n (k + 1) ks (omega arith), section-other k (omega arith)) refl

  rest_are : all_sections (any names_data is) own ≡ concat_map (section (own ++ data_count is)) (numbers (CODE - IMPORT) IMPORT ++ (DATA_COUNT ∷ CODE ∷ DATAS ∷ []))
  unfolding all_sections
  rest_are =
      let before = sections_from (CODE - IMPORT) IMPORT own in
      let last = sections_from (SECTIONS - CODE) CODE own in
      let f = section (own ++ data_count is) in
      let a : last ≡ concat_map f (CODE ∷ DATAS ∷ []) = unfold concat_map in sym (append-nil last) ∙ run_then (SECTIONS - CODE) CODE [] (omega arith) in
      append_assoc before (count_section (any names_data is) (length (in_section DATAS own))) last
      ∙ ap (λ (z : Bytes). before ++ z) (rw (← section-count, a) (unfold concat_map in refl))
      ∙ run_then (CODE - IMPORT) IMPORT (DATA_COUNT ∷ CODE ∷ DATAS ∷ []) (omega arith)

  -- after section 1 come the others
  pub module_is : preamble ++ (section (own ++ data_count is) TYPE ++ all_sections (any names_data is) own) ≡ module' is
  unfolding module' sections section_numbers
  module_is = ap (λ (z : Bytes). preamble ++ (section (own ++ data_count is) TYPE ++ z)) rest_are ∙ (unfold concat_map in refl)

-- ## Code and data are as long as there are data segments

section-least : (k : ℕ) (bs : List Bytes) → length (joined bs) ≤ length (section_of k bs)
section-least k [] = unfold joined concat_map in omega arith
section-least k (b ∷ bs) = let a = content-least (b ∷ bs) in unfold sized in omega (arith, length-append (u (length (content k (b ∷ bs)))) (content k (b ∷ bs)))
  where
    content-least : (es : List Bytes) → length (joined es) ≤ length (content k es)
    content-least es = unfold content in go (eqb k 8 || eqb k 12)
      where
        go : (t : Bool) → length (joined es) ≤ length (if t then joined es else u (length es) ++ joined es)
        go true = omega arith
        go false = omega (arith, length-append (u (length es)) (joined es))

pub data_least : (es : Entries) → Good es → length (in_section DATAS es) ≤ length (sections_from (SECTIONS - CODE) CODE es)
unfolding sections_from section
data_least es g =
    let a = section-least DATAS (in_section DATAS es) in
    let b = g.each DATAS in
    omega (arith, length-append (section_of CODE (in_section CODE es)) (section_of DATAS (in_section DATAS es) ++ []), length-append (section_of DATAS (in_section DATAS es)) [])
