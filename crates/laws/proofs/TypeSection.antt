-- Section 1 of a module holds the types of its scope, declared and added, in their order.
use Rattle.std.specs.Prelude.{if◌then◌else◌}
use mathlib.Core.Path.{◌≡◌, refl, ap, ◌∙◌, sym}
use Prim.Native.Nat.{ℕ}
use mathlib.Core.Bool.{Bool, true, false, not, ◌&&◌, false≢true}
use mathlib.Core.List.{List, [], ◌∷◌, ◌++◌, map, map-append, append_assoc, append-nil}
use mathlib.Core.Option.{some}
use lib.Dec.{eqb}
use lib.ListN.{length, drop}
use lib.Seq.{drop-append_seam}
use borrow.Author.Tests.{eqb-false}
use Rattle.definition.specs.Basic.{Answer, ok, ◌>>=◌, each, concat_map, any, at}
use Rattle.definition.specs.Syntax.{Bytes, Body, FuncType, Own, own_func, own_table, own_mem, own_global, Field, type_f, import_f, own_f, export_f, start_f, elem_f, data_f}
use Rattle.definition.specs.Syntax.{Item, type_i}
use Rattle.definition.specs.Deinline.{Numbered}
use Rattle.definition.specs.Types.{declared_by, declared, uses, all_types}
use Rattle.definition.specs.Names.{Scope, own_item, resolve, resolve_all}
use Rattle.definition.specs.Binary.{func_type, entries, in_section, names_data, data_count, section, section_of, section_numbers, sections, preamble, module'}
use Rattle.definition.specs.Assemble.{items_in}
use Rattle.laws.specs.TypeLists.{HoldsTypes}
use Rattle.laws.proofs.Interning.{came, intern-keeps}

-- the entries of section 1 among some entries
abbrev types_in : Item → List Bytes
types_in i = in_section 1 (entries i)

-- what follows a step that is accepted
after : {A : Type 0} (P : Item → Type 0) (m : Answer A) (k : A → Answer Item) (i : Item) → ((a : A) → k a ≡ ok i → P i) → (m >>= k) ≡ ok i → P i
after P m k i f e = let c = came m k i e in f c.0 c.2

module _ {I : Type 0} (Γ : Scope I) (r : ℕ) where
  abbrev None : Item → Type 0
  None i = types_in i ≡ []

  given : (j i : Item) → None j → ◌≡◌ {A = Answer Item} (ok j) (ok i) → None i
  given j i n e = let z : j ≡ i = cc in rw z at n

  own-none : (o : Own I) (b : Body I) (i : Item) → own_item Γ r o b ≡ ok i → None i
  unfolding own_item entries in_section
  own-none (own_func t ls) b i e = after None _ _ i (λ n d. after None _ _ i (λ _ f. after None _ _ i (λ os g. given _ i refl g) f) d) e
  own-none (own_table t) b i e = given _ i refl e
  own-none (own_mem l) b i e = given _ i refl e
  own-none (own_global t c) b i e = after None _ _ i (λ o d. given _ i refl d) e

  one-types : (x : Field I) (i : Item) → resolve Γ r x ≡ ok i → types_in i ≡ map func_type (declared_by x)
  unfolding resolve declared_by entries in_section
  one-types (type_f j t) i e = let z : type_i t ≡ i = cc in rw (← z) refl
  one-types (import_f n j d) i e = after None _ _ i (λ a f. given _ i refl f) e
  one-types (own_f j o b) i e = own-none o b i e
  one-types (export_f n k x) i e = after None _ _ i (λ a f. given _ i refl f) e
  one-types (start_f x) i e = after None _ _ i (λ a f. given _ i refl f) e
  one-types (elem_f j m xs) i e = after None _ _ i (λ a f. after None _ _ i (λ ns g. given _ i refl g) f) e
  one-types (data_f j m d) i e = after None _ _ i (λ a f. given _ i refl f) e

-- ## All fields

pub section-append : (k : ℕ) (xs ys : List (ℕ × Bytes)) → in_section k (xs ++ ys) ≡ in_section k xs ++ in_section k ys
unfolding in_section
section-append k [] ys = refl
section-append k ((j, b) ∷ xs) ys = rw (section-append k xs ys, append_assoc (if eqb k j then b ∷ [] else [])) refl

concat_append : (is js : List Item) → concat_map entries (is ++ js) ≡ concat_map entries is ++ concat_map entries js
unfolding concat_map
concat_append [] js = refl
concat_append (i ∷ is) js = rw (concat_append is js, append_assoc (entries i)) refl

all_types_lem : {I : Type 0} (Γ : Scope I) (fs : Numbered I) (is : List Item) → resolve_all Γ fs ≡ ok is
    → in_section 1 (concat_map entries is) ≡ map func_type (declared fs)
unfolding resolve_all each declared concat_map
all_types_lem Γ [] is e = let z : [] ≡ is = cc in rw (← z) (unfold in_section in refl)
all_types_lem Γ ((r, x) ∷ fs) is e =
    let c = came (resolve Γ r x) _ is e in
    let d = came (each (λ x. resolve Γ x.0 x.1) fs) _ is c.2 in
    let g = d.2 in
    let z : c.0 ∷ d.0 ≡ is = cc in
    rw (← z, section-append 1 (entries c.0) (concat_map entries d.0), one-types Γ r x c.0 c.1, all_types_lem Γ fs d.0 d.1, map-append) refl

added-types : (ts : List FuncType) → in_section 1 (concat_map entries (map type_i ts)) ≡ map func_type ts
unfolding concat_map entries in_section
added-types [] = refl
added-types (t ∷ ts) = ap (λ xs. func_type t ∷ xs) (added-types ts)

-- the data count is no type
count-other : (is : List Item) → in_section 1 (data_count is) ≡ []
unfolding data_count
count-other is = go (any names_data is) _
  where
    go : (t : Bool) (b : Bytes) → in_section 1 (if t then (12, b) ∷ [] else []) ≡ []
    go true b = unfold in_section in refl
    go false b = unfold in_section in refl

-- where the types are the declared ones and some more
with_more : {I : Type 0} (Γ : Scope I) (fs : Numbered I) (is : List Item) (extra : List FuncType) → Γ.all_types ≡ declared fs ++ extra → items_in Γ fs ≡ ok is
    → in_section 1 (concat_map entries is) ≡ map func_type Γ.all_types
unfolding items_in
with_more Γ fs is extra k w =
    let c = came (resolve_all Γ fs) _ is w in
    let g = c.2 in
    let added : drop (length (declared fs)) Γ.all_types ≡ extra = rw k (drop-append_seam (declared fs) extra) in
    let z : c.0 ++ map type_i extra ≡ is = ap (λ ts. c.0 ++ map type_i ts) (sym added) ∙ cc in
    rw (
      ← z,
      concat_append c.0 (map type_i extra),
      section-append 1 (concat_map entries c.0) (concat_map entries (map type_i extra)),
      all_types_lem Γ fs c.0 c.1,
      added-types extra,
      k,
      map-append,
    ) refl

-- section 1 is written of the types of the scope
pub type-section : {I : Type 0} (Γ : Scope I) (fs : Numbered I) (is : List Item) → all_types fs ≡ ok Γ.all_types → items_in Γ fs ≡ ok is
    → section (concat_map entries is ++ data_count is) 1 ≡ section_of 1 (map func_type Γ.all_types)
unfolding all_types section
type-section Γ fs is e w =
    let k = intern-keeps (declared fs) (uses fs) Γ.all_types e in
    rw (section-append 1 (concat_map entries is) (data_count is), count-other is, append-nil, with_more Γ fs is k.added k.is w) refl

-- ## The sections after it

-- a section begins with its number
other-first : (k : ℕ) (es : List Bytes) (bs : Bytes) → eqb k 1 ≡ false → (at bs 0 ≡ some 1 → ⊥) → at (section_of k es ++ bs) 0 ≡ some 1 → ⊥
unfolding at
other-first k [] bs n f e = f e
other-first k (x ∷ es) bs n f e = let z : k ≡ 1 = cc in eqb-false k 1 n z

module _ (es : List (ℕ × Bytes)) where
  -- none of these sections is section 1
  abbrev others : List ℕ → Bool
  others [] = true
  others (k ∷ ks) = not (eqb k 1) && others ks

  others_first : (ks : List ℕ) (bs : Bytes) → others ks ≡ true → (at bs 0 ≡ some 1 → ⊥) → at (concat_map (section es) ks ++ bs) 0 ≡ some 1 → ⊥
  unfolding concat_map section
  others_first [] bs n f e = f e
  others_first (k ∷ ks) bs n f e = go (eqb k 1) refl n (others_first ks bs)
    where
      go : (t : Bool) → eqb k 1 ≡ t → (not t && others ks) ≡ true → (others ks ≡ true → (at bs 0 ≡ some 1 → ⊥) → at (concat_map (section es) ks ++ bs) 0 ≡ some 1 → ⊥) → ⊥
      go true d n w = false≢true n
      go false d n w =
          other-first k (in_section k es) (concat_map (section es) ks ++ bs) d (w n f) (rw (append_assoc (section_of k (in_section k es)) (concat_map (section es) ks) bs) at e)

module_is : (es : List (ℕ × Bytes)) (ks : List ℕ) (bs first : Bytes) → section es 1 ≡ first
    → (preamble ++ concat_map (section es) (1 ∷ ks)) ++ bs ≡ preamble ++ first ++ (concat_map (section es) ks ++ bs)
unfolding concat_map
module_is es ks bs first e =
    let rest = concat_map (section es) ks in
    rw e (append_assoc preamble (first ++ rest) bs ∙ ap (λ (x : Bytes). preamble ++ x) (append_assoc first rest bs) ∙ sym (append_assoc preamble first (rest ++ bs)))

-- the module of a scope's items, and after it what is not section 1
pub module_holds : {I : Type 0} (Γ : Scope I) (fs : Numbered I) (is : List Item) (bs : Bytes) → all_types fs ≡ ok Γ.all_types → items_in Γ fs ≡ ok is
    → (at bs 0 ≡ some 1 → ⊥) → HoldsTypes Γ.all_types (module' is ++ bs)
unfolding module' sections section_numbers
module_holds Γ fs is bs e w f =
    let es = concat_map entries is ++ data_count is in
    let ks : List ℕ = 2 ∷ 3 ∷ 4 ∷ 5 ∷ 6 ∷ 7 ∷ 8 ∷ 9 ∷ 12 ∷ 10 ∷ 11 ∷ [] in
    record {
      after = concat_map (section es) ks ++ bs;
      is = module_is es ks bs _ (type-section Γ fs is e w);
      no_other = others_first es ks bs refl f;
    }
