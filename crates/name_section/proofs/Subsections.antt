-- The section: its length by the tally, and its bytes.
use Rattle.std.specs.Prelude.{if◌then◌else◌}
use Prim.Native.Nat.{ℕ, ◌*◌, ◌^◌, ◌≤◌, ◌<◌}
use mathlib.Core.Path.{◌≡◌, refl, sym, ◌∙◌, ap}
use mathlib.Core.Bool.{true, false}
use mathlib.Core.List.{List, [], ◌∷◌, ◌++◌, map}
use lib.Dec.{eqb}
use lib.ListN.{length, get_or, length-append, length-map}
use native.Mathlib.Omega.{arith}
use borrow.Author.Tests.{eq-eqb, ne_eqb}
use Rattle.definition.specs.Basic.{concat_map}
use Rattle.definition.specs.Syntax.{Bytes, Identifier, funcs}
use Rattle.definition.specs.Binary.{unsigned, u, sized, joined, content, section_of}
use Rattle.emit.specs.Put.{Put, past}
use Rattle.emit.proofs.Laws.{put-none, put_then, put_is}
use Rattle.area.specs.Layout.{LOCALS}
use Rattle.area.specs.Kept.{Kept}
use Rattle.name_table.specs.Tables.{table_of}
use Rattle.walk.specs.Walk.{fields_in}
use Rattle.scope.specs.Scope.{scope_in}
use Rattle.kept.specs.Sections.{START, DATA_COUNT}
use Rattle.kept.specs.Tally.{reached, no_tally}
use Rattle.kept.specs.declared.tally.Tally.{Tally}
use Rattle.module.specs.Length.{content_len, sized_len, section_len}
use Rattle.module.proofs.Full.{u-only, first_some}
use Rattle.module.proofs.Lengths.{past-past, past_measured, past-none, past-from, content-long, sized-long, entries-long}
use Rattle.sections.proofs.Emitting.{scope-same}
use Rattle.module.proofs.Sections.{counted-put, headed_put, past-some}
use Rattle.definition.specs.NameSection.{NameMap, named_from, functions, local_names_from, name_assoc, indirect_name_assoc, subsections, section_name, custom_of, name_section}
use Rattle.name_maps.specs.Maps.{first, Adds, Names, LocalNames}
use Rattle.name_section.specs.Section.{function_entries, local_entries, Measured, SizeOf, NameTally, length_of, subsections_len, name_len, names_in}
use Rattle.name_maps.specs.declared.map.Reached.{Reached}

-- ## Entries

joined-map : {A : Type 0} (f : A → Bytes) (es : List A) → concat_map f es ≡ joined (map f es)
unfolding joined concat_map
joined-map f [] = refl
joined-map f (e ∷ es) = ap (λ bs. f e ++ bs) (joined-map f es)

-- none is empty
map_full : {A : Type 0} (f : A → Bytes) → ((a : A) → 1 ≤ length (f a)) → (es : List A) → length (map f es) ≤ length (joined (map f es))
unfolding joined concat_map
map_full f full [] = omega arith
map_full f full (e ∷ es) = omega (arith, full e, map_full f full es, length-append (f e) (joined (map f es)))

assoc_some : (a : ℕ × Identifier) → 1 ≤ length (name_assoc a)
unfolding name_assoc
assoc_some a = first_some (u a.0) _ (u-only a.0)

indirect-some : (a : ℕ × NameMap) → 1 ≤ length (indirect_name_assoc a)
unfolding indirect_name_assoc
indirect-some a = first_some (u a.0) _ (u-only a.0)

functions_full : (s w : List ℕ) → length (function_entries s w) ≤ length (joined (function_entries s w))
unfolding function_entries
functions_full s w = map_full name_assoc assoc_some (named_from 0 ((scope_in s w).names funcs))

locals_full : (s w : List ℕ) → length (local_entries s w) ≤ length (joined (local_entries s w))
unfolding local_entries
locals_full s w = map_full indirect_name_assoc indirect-some (local_names_from 0 (functions (scope_in s w) (fields_in s)))

function_bytes : (s w : List ℕ) → concat_map name_assoc (named_from 0 (table_of funcs s w)) ≡ joined (function_entries s w)
unfolding function_entries scope_in
function_bytes s w = joined-map name_assoc (named_from 0 (table_of funcs s w))

local-bytes : (s w : List ℕ) → concat_map indirect_name_assoc (local_names_from 0 (functions (scope_in s w) (fields_in s))) ≡ joined (local_entries s w)
unfolding local_entries
local-bytes s w = joined-map indirect_name_assoc (local_names_from 0 (functions (scope_in s w) (fields_in s)))

-- ## Measured

sized_of : {A : Type 0} (f : A → Bytes) (es : List A) (places : ℕ) (old : Bytes) (r : Reached) (new : Bytes) → Adds f es places (first 0 0) old r new → SizeOf (map f es) r
sized_of f es places old r new v = record { size = rw (← joined-map f es) v.put.place; count = omega (arith, v.count, length-map es f) }

pub functions-size : (s w old : List ℕ) (r : Reached) (new : List ℕ) → Names (table_of funcs s w) (first 0 0) old r new → SizeOf (function_entries s w) r
unfolding function_entries scope_in
functions-size s w old r new v = sized_of name_assoc (named_from 0 (table_of funcs s w)) _ old r new v

pub locals-size : (s w old : List ℕ) (r : Reached) (new : List ℕ) → LocalNames (functions (scope_in s w) (fields_in s)) (first 0 0) old r new → SizeOf (local_entries s w) r
unfolding local_entries
locals-size s w old r new v = sized_of indirect_name_assoc (local_names_from 0 (functions (scope_in s w) (fields_in s))) _ old r new v

pub both_measured : (s w : List ℕ) (f l : Reached) (n t r : Tally) → SizeOf (function_entries s w) f → SizeOf (local_entries s w) l → n ≡ no_tally → t ≡ reached n 1 f.at f.count → r ≡ reached t 2 l.at l.count
    → NameTally s w r
unfolding reached
both_measured s w f l n t r v x z d e = rw (e, d, z) (record {
  functions = record { size = v.size; count = ap (past 0) v.count };
  locals = record { size = x.size; count = ap (past 0) x.count };
})

-- ## Lengths

pub both_len : (t : Tally) (a b r : ℕ) → a ≡ section_len t 1 → b ≡ section_len t 2 → r ≡ past a b → r ≡ subsections_len t
unfolding subsections_len
both_len t a b r d e h = rw (← d, ← e) h

pub len_none : (t : Tally) (n : ℕ) → n ≡ subsections_len t → n ≡ 0 → 0 ≡ name_len t
unfolding name_len
len_none t n d z = rw (eq-eqb (subsections_len t) 0 (sym d ∙ z)) refl

pub len_some : (t : Tally) (n m r : ℕ) → n ≡ subsections_len t → (n ≡ 0 → ⊥) → m ≡ past 5 n → r ≡ sized_len m → r ≡ name_len t
unfolding name_len
len_some t n m r d z e h = rw (ne_eqb (subsections_len t) 0 (λ y. z (d ∙ y)), ← d, ← e) h

-- both subsections
abbrev both : List ℕ → List ℕ → Bytes
both s w = section_of 1 (function_entries s w) ++ section_of 2 (local_entries s w)

subsections-long : (s w : List ℕ) (t : Tally) → NameTally s w t → subsections_len t ≡ past 0 (length (both s w))
unfolding subsections_len
subsections-long s w t v =
    rw (
      entries-long t 1 (function_entries s w) (omega arith) v.functions.size v.functions.count (functions_full s w),
      entries-long t 2 (local_entries s w) (omega arith) v.locals.size v.locals.count (locals_full s w),
      length-append (section_of 1 (function_entries s w)) (section_of 2 (local_entries s w)),
    )
    (past_measured (past 0 (length (section_of 1 (function_entries s w)))) (length (section_of 2 (local_entries s w)))
    ∙ past-past 0 (length (section_of 1 (function_entries s w))) (length (section_of 2 (local_entries s w))))

names_are : (s w : List ℕ) → custom_of (both s w) ≡ names_in s w
unfolding names_in name_section subsections function_entries local_entries
names_are s w = refl

title : length (sized section_name) ≡ 5
unfolding sized section_name u unsigned
title = refl

-- the section's own name is 5 bytes
title_long : (n : ℕ) (bs : Bytes) → n ≡ past 0 (length bs) → past 5 n ≡ past 0 (length (sized section_name ++ bs))
title_long n bs e =
    rw (e, length-append (sized section_name) bs, title) (past_measured 5 (length bs) ∙ past-from 5 (length bs) (omega arith))

-- what the tally says of the section's length
pub name_len-is : (s w : List ℕ) (t : Tally) → NameTally s w t → name_len t ≡ past 0 (length (names_in s w))
unfolding name_len
name_len-is s w t v = rw (← names_are s w) (go (both s w) (subsections-long s w t v))
  where
    go : (bs : Bytes) → subsections_len t ≡ past 0 (length bs) → (if eqb (subsections_len t) 0 then 0 else sized_len (past 5 (subsections_len t))) ≡ past 0 (length (custom_of bs))
    go [] e = let z : eqb (subsections_len t) 0 ≡ true = eq-eqb _ _ (e ∙ past-none 0) in rw z (sym (past-none 0))
    go (b ∷ bs) e =
        let z : eqb (subsections_len t) 0 ≡ false = ne_eqb _ _ (λ y. past-some (length bs) (sym e ∙ y)) in
        rw z (sized-long 0 _ (sized section_name ++ (b ∷ bs)) (title_long _ (b ∷ bs) e))

-- ## Subsections

pub length-put : (k : ℕ) (t : Tally) (n : ℕ) {old new : Bytes} {here r : ℕ} → n ≡ content_len k (get_or t.sizes k 0) (get_or t.counts k 0) → Put old here (k ∷ u n) r new → Put old here (length_of t k) r new
unfolding length_of
length-put k t n e p = rw (← e) p

subsection_none : (t : Tally) (k : ℕ) (es : List Bytes) (old : Bytes) (here : ℕ) → Measured t k es → get_or t.counts k 0 ≡ 0 → length old * 1 < 2 ^ 63 → Put old here (section_of k es) here old
subsection_none t k es old here v z g = go es v.count
  where
    go : (bs : List Bytes) → get_or t.counts k 0 ≡ past 0 (length bs) → Put old here (section_of k bs) here old
    go [] e = put-none here (omega arith)
    go (b ∷ bs) e = absurd (past-some (length bs) (sym e ∙ z))

content-is : (k : ℕ) (es : List Bytes) → k < START → content k es ≡ u (length es) ++ joined es
unfolding content
content-is k es c = rw (ne_eqb k START (λ e. omega arith), ne_eqb k DATA_COUNT (λ e. omega arith)) refl

subsection_some : (t : Tally) (k : ℕ) (es : List Bytes) (old mid end new : Bytes) (here a b q : ℕ) → Measured t k es → k < START → length es ≤ length (joined es) → (get_or t.counts k 0 ≡ 0 → ⊥)
    → Put old here (length_of t k) a mid → Put mid a (u (get_or t.counts k 0)) b end → Put end b (joined es) q new → Put old here (section_of k es) q new
unfolding length_of
subsection_some t k es old mid end new here a b q v c full z x y p = go es v.size v.count full p
  where
    go : (bs : List Bytes) → get_or t.sizes k 0 ≡ past 0 (length (joined bs)) → get_or t.counts k 0 ≡ past 0 (length bs) → length bs ≤ length (joined bs) → Put end b (joined bs) q new → Put old here (section_of k bs) q new
    go [] d e g p = absurd (z (e ∙ past-none 0))
    go (e₁ ∷ bs) d e g p = headed_put k (content-long k _ _ (e₁ ∷ bs) (omega arith) g d e) x (put_is (counted-put (e₁ ∷ bs) g e y p) (sym (content-is k (e₁ ∷ bs) c)))

module _ (s w : List ℕ) (t : Tally) (v : NameTally s w t) (old : Bytes) (here : ℕ) where
  pub first-none : get_or t.counts 1 0 ≡ 0 → length old * 1 < 2 ^ 63 → Put old here (section_of 1 (function_entries s w)) here old
  first-none z g = subsection_none t 1 _ old here v.functions z g

  pub second_none : get_or t.counts 2 0 ≡ 0 → length old * 1 < 2 ^ 63 → Put old here (section_of 2 (local_entries s w)) here old
  second_none z g = subsection_none t 2 _ old here v.locals z g

  module _ (a b : ℕ) (r : Reached) (mid end new : Bytes) where
    pub first-put : (get_or t.counts 1 0 ≡ 0 → ⊥) → Put old here (length_of t 1) a mid → Put mid a (u (get_or t.counts 1 0)) b end → Names (table_of funcs s w) (first b 0) end r new
        → Put old here (section_of 1 (function_entries s w)) r.at new
    first-put z x y p = subsection_some t 1 _ old mid end new here a b r.at v.functions (omega arith) (functions_full s w) z x y (put_is p.put (function_bytes s w))

    pub second-put : (get_or t.counts 2 0 ≡ 0 → ⊥) → Put old here (length_of t 2) a mid → Put mid a (u (get_or t.counts 2 0)) b end
        → LocalNames (functions (scope_in s w) (fields_in s)) (first b 0) end r new → Put old here (section_of 2 (local_entries s w)) r.at new
    second-put z x y p = subsection_some t 2 _ old mid end new here a b r.at v.locals (omega arith) (locals_full s w) z x y (put_is p.put (local-bytes s w))

  -- ## The section

  pub names-none : (n : ℕ) → n ≡ subsections_len t → n ≡ 0 → length old * 1 < 2 ^ 63 → Put old here (names_in s w) here old
  names-none n d z g = put_is (go (both s w) (sym d ∙ z) (subsections-long s w t v)) (names_are s w)
    where
      go : (bs : Bytes) → subsections_len t ≡ 0 → subsections_len t ≡ past 0 (length bs) → Put old here (custom_of bs) here old
      go [] y e = put-none here (omega arith)
      go (b ∷ bs) y e = absurd (past-some (length bs) (sym e ∙ y))

  pub names-some : (n m a b c q : ℕ) (o₁ o₂ o₃ new : Bytes) → n ≡ subsections_len t → (n ≡ 0 → ⊥) → m ≡ past 5 n → Put old here (0 ∷ u m) a o₁ → Put o₁ a (sized section_name) b o₂
      → Put o₂ b (section_of 1 (function_entries s w)) c o₃ → Put o₃ c (section_of 2 (local_entries s w)) q new → Put old here (names_in s w) q new
  names-some n m a b c q o₁ o₂ o₃ new d z e x y p₁ p₂ = put_is (go (both s w) (d ∙ subsections-long s w t v) (put_then p₁ p₂)) (names_are s w)
    where
      go : (bs : Bytes) → n ≡ past 0 (length bs) → Put o₂ b bs q new → Put old here (custom_of bs) q new
      go [] f p = absurd (z (f ∙ past-none 0))
      go (k ∷ bs) f p = headed_put 0 (e ∙ title_long n (k ∷ bs) f) x (put_then y p)

-- ## The work area

module _ (s w w' : List ℕ) (k : Kept LOCALS w w') where
  functions-kept : function_entries s w' ≡ function_entries s w
  unfolding function_entries
  functions-kept = rw (scope-same s w w' k) refl

  locals-kept : local_entries s w' ≡ local_entries s w
  unfolding local_entries
  locals-kept = rw (scope-same s w w' k) refl

  pub names-kept : names_in s w' ≡ names_in s w
  unfolding names_in
  names-kept = rw (scope-same s w w' k) refl

  pub name_tally_kept : (t : Tally) → NameTally s w t → NameTally s w' t
  name_tally_kept t v = record { functions = rw functions-kept v.functions; locals = rw locals-kept v.locals }
