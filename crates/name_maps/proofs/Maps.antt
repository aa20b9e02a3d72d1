-- Name maps, a place at a time.
use Rattle.std.specs.Prelude.{Ok, Err}
use Rattle.syntax.specs.Reads.{Read}
use Prim.Native.Nat.{ℕ, zero, suc, ◌+◌, ◌-◌, ◌*◌, ◌^◌, ◌≤◌, ◌<◌}
use mathlib.Core.Path.{◌≡◌, refl, sym, ◌∙◌, ap}
use mathlib.Core.List.{List, [], ◌∷◌, ◌++◌, append_assoc, append-nil}
use mathlib.Core.Option.{none, some}
use lib.ListN.{length, get_or, length-append}
use mir.Syntax.{w64}
use mir.Val.{Fits}
use native.Mathlib.Omega.{arith}
use borrow.Author.Tests.{eq-eqb, ne_eqb}
use Rattle.definition.specs.Basic.{concat_map}
use Rattle.definition.specs.Syntax.{Bytes, Identifier, funcs}
use Rattle.definition.specs.Token.{param}
use Rattle.definition.specs.Names.{Namespace}
use Rattle.definition.specs.Binary.{u, sized}
use Rattle.emit.specs.Put.{Put}
use Rattle.emit.proofs.Laws.{put-none, put_then, put_is}
use Rattle.area.specs.Layout.{NAMES, TABLE, WORDS}
use Rattle.syntax.specs.Tokens.{part_of, id_of}
use Rattle.syntax.specs.declared.Part.{Part}
use Rattle.syntax.specs.TypeUses.{local_at}
use Rattle.syntax.specs.Refusals.{number}
use Rattle.syntax.specs.declared.Fault.{Fault}
use Rattle.syntax.specs.declared.Local.{Local}
use Rattle.operands.proofs.Elements.{elements-none, elements-more, elements-fault}
use Rattle.name_table.specs.Area.{tag_of, entry, names}
use Rattle.name_table.specs.Tables.{base, name_count, table_of}
use Rattle.frames.specs.Locals.{ids_at}
use Rattle.definition.specs.NameSection.{named_from, name_assoc}
use Rattle.name_maps.specs.Maps.{first, Adds, Names, Few}
use Rattle.name_maps.specs.declared.map.Reached.{Reached}

-- ## Entries in a row

pub concat_append : {A B : Type 0} (f : A → List B) (xs ys : List A) → concat_map f (xs ++ ys) ≡ concat_map f xs ++ concat_map f ys
unfolding concat_map
concat_append f [] ys = refl
concat_append f (x ∷ xs) ys = rw (concat_append f xs ys) (sym (append_assoc (f x) (concat_map f xs) (concat_map f ys)))

pub adds_none : {A : Type 0} (f : A → Bytes) (x : Reached) (old : Bytes) → length old * 1 < 2 ^ 63 → Adds f [] 0 x old x old
unfolding concat_map
adds_none f x old h = record { put = put-none x.at (omega arith); number = omega arith; count = omega arith }

pub adds_then : {A : Type 0} {f : A → Bytes} {es ds : List A} {p q : ℕ} {x y z : Reached} {a b c : Bytes}
    → Adds f es p x a y b → Adds f ds q y b z c → Adds f (es ++ ds) (p + q) x a z c
adds_then {f = f} {es} {ds} v w = record {
  put = put_is (put_then v.put w.put) (sym (concat_append f es ds));
  number = omega (arith, v.number, w.number);
  count = omega (arith, v.count, w.count, length-append es ds);
}

-- ## Names in a row

pub named-append : (n : ℕ) (is js : Namespace Identifier) → named_from n (is ++ js) ≡ named_from n is ++ named_from (n + length is) js
unfolding named_from
named-append n [] js = let e : n + 0 ≡ n = omega arith in rw e refl
named-append n (none ∷ is) js = let e : n + suc (length is) ≡ n + 1 + length is = omega arith in rw e (named-append (n + 1) is js)
named-append n (some i ∷ is) js = let e : n + suc (length is) ≡ n + 1 + length is = omega arith in rw e (ap (λ (l : List (ℕ × Identifier)). (n, i) ∷ l) (named-append (n + 1) is js))

-- no more than there are places
pub named-few : (n : ℕ) (is : Namespace Identifier) → length (named_from n is) ≤ length is
unfolding named_from
named-few n [] = omega arith
named-few n (none ∷ is) = omega (arith, named-few (n + 1) is)
named-few n (some i ∷ is) = omega (arith, named-few (n + 1) is)

pub names_then : (is js : Namespace Identifier) {x y z : Reached} {a b c : Bytes} → Names is x a y b → Names js y b z c → Names (is ++ js) x a z c
names_then is js {x} {y} {z} {a} {b} {c} v w =
    let e = v.number in
    let w' : Adds name_assoc (named_from (x.number + length is) js) (length js) y b z c = rw (← e) w in
    rw (named-append x.number is js, length-append is js) (adds_then v w')

-- ## One place

module _ (s : Bytes) (p : Part) (x : Reached) (old : Bytes) where
  pub next-none : p.len ≡ 0 → length old * 1 < 2 ^ 63 → Names (id_of s p ∷ []) x old (record { at = x.at; number = x.number + 1; count = x.count }) old
  unfolding named_from concat_map
  next-none h g = rw (eq-eqb _ 0 h) (record { put = put-none x.at (omega arith); number = refl; count = omega arith })

  pub next-some : (a q : ℕ) (mid new : Bytes) → (p.len ≡ 0 → ⊥) → Put old x.at (u x.number) a mid → Put mid a (sized (part_of s p)) q new
      → Names (id_of s p ∷ []) x old (record { at = q; number = x.number + 1; count = x.count + 1 }) new
  unfolding named_from concat_map name_assoc
  next-some a q mid new h v w = rw (ne_eqb _ 0 h) (record {
    put = put_is (put_then v w) (sym (append-nil (u x.number ++ sized (part_of s p))));
    number = refl;
    count = refl;
  })

-- ## The table of functions

module _ (s w : List ℕ) (place a b t g : ℕ) (name : List ℕ) (d : a ≡ get_or w place 0) (e : b ≡ get_or w (place + 1) 0) (f : t ≡ get_or w (place + 2) 0)
    (n : name ≡ part_of s (record { at = a; len = b })) (h : g ≡ tag_of name) where
  -- the tag is that of the bytes
  pub entry-is : g ≡ t → id_of s (record { at = a; len = b }) ≡ entry s w place
  unfolding entry
  entry-is q = rw (← d, ← e, ← f, ← n, ← h, eq-eqb t g (sym q)) refl

  -- it is not
  pub entry-none : (g ≡ t → ⊥) → id_of s (record { at = 0; len = 0 }) ≡ entry s w place
  unfolding entry
  entry-none q = rw (← d, ← e, ← f, ← n, ← h, ne_eqb t g (λ z. q (sym z))) refl

pub place-put : (s w : List ℕ) (place : ℕ) (p : Part) (x : Reached) (old : Bytes) (r : Reached) (new : Bytes) → id_of s p ≡ entry s w place → Names (id_of s p ∷ []) x old r new
    → Names (entry s w place ∷ []) x old r new
place-put s w place p x old r new e v = rw (← e) v

pub record Naming (s w old : List ℕ) (at left place : ℕ) (x : Reached) (out : List ℕ) : Type 0 where
  pub low : place + 3 * left ≤ NAMES + TABLE
  pub sum : x.number + left ≤ 256
  pub done : Namespace Identifier
  pub so_far : Names done (first at 0) old x out
  pub same : done ++ names left s w place ≡ table_of funcs s w

naming_start : (s w old : List ℕ) (at n b : ℕ) (x : Reached) → n ≡ name_count funcs w → b ≡ base funcs → x ≡ first at 0 → length old * 1 < 2 ^ 63 → Naming s w old at n b x old
unfolding table_of base named_from
naming_start s w old at n b x e g d h = rw (g, d) (record {
  low = omega arith;
  sum = omega arith;
  done = [];
  so_far = adds_none name_assoc (first at 0) old h;
  same = rw e refl;
})

pub naming_begin : (s w old : List ℕ) (at n b : ℕ) (x : Reached) → n ≡ name_count funcs w → b ≡ base funcs → x ≡ first at 0 → length old * 1 < 2 ^ 63 → Naming s w old at (n - 0) b x old
naming_begin s w old at n b x e g d h = let z : n - 0 ≡ n = omega arith in naming_start s w old at (n - 0) b x (z ∙ e) g d h

module _ (s w old : List ℕ) (at left place : ℕ) (x : Reached) (out : List ℕ) (v : Naming s w old at left place x out) where
  pub naming_few : Few 8589934592 x
  naming_few = record { low = omega (arith, v.sum); fewer = omega (arith, v.so_far.number, v.so_far.count, named-few 0 v.done) }

  pub naming_long : length out ≡ length old
  naming_long = v.so_far.put.long

module _ (s w old : List ℕ) (at n i place : ℕ) (x : Reached) (out : List ℕ) (v : Naming s w old at (n - i) place x out) where
  pub naming_room : i < n → WORDS ≤ length w → place + 2 < length w
  naming_room h g = omega (arith, v.low)

  pub naming_next : i < n → Fits w64 (place + 3)
  naming_next h = omega (arith, v.low)

  pub naming_again : (r : Reached) (new : List ℕ) → i < n → Names (entry s w place ∷ []) x out r new → Naming s w old at (n - (i + 1)) (place + 3) r new
  unfolding names
  naming_again r new h q = go (n - i) (n - (i + 1)) (omega arith) v.low v.sum v.same
    where
      go : (m k : ℕ) → m ≡ suc k → place + 3 * m ≤ NAMES + TABLE → x.number + m ≤ 256 → v.done ++ names m s w place ≡ table_of funcs s w → Naming s w old at k (place + 3) r new
      go zero k e a b c = absurd (omega arith)
      go (suc m) k e a b c =
          let z : m ≡ k = omega arith in
          rw (← z) (record {
            low = omega arith;
            sum = omega (arith, q.number);
            done = v.done ++ (entry s w place ∷ []);
            so_far = names_then v.done (entry s w place ∷ []) v.so_far q;
            same = append_assoc v.done (entry s w place ∷ []) (names m s w (place + 3)) ∙ c;
          })

  pub naming_done : n ≤ i → Names (table_of funcs s w) (first at 0) old x out
  unfolding names
  naming_done h = go (n - i) (omega arith) v.same
    where
      go : (m : ℕ) → m ≤ 0 → v.done ++ names m s w place ≡ table_of funcs s w → Names (table_of funcs s w) (first at 0) old x out
      go zero h c = rw (← c, append-nil v.done) v.so_far
      go (suc m) h c = absurd (omega arith)

-- ## A list of parameters or locals

pub record Listing (s old : List ℕ) (from : Reached) (place n here left : ℕ) (x : Reached) (out : List ℕ) : Type 0 where
  pub sum : x.number + left ≤ 8589934592
  pub fewer : x.count ≤ x.number
  pub done : Namespace Identifier
  pub so_far : Names done from old x out
  pub same : done ++ ids_at s here left ≡ ids_at s place n

listing_start : (s old : List ℕ) (from : Reached) (place n m : ℕ) → m ≡ n → Few 4294967296 from → n < 2 ^ 32 → length old * 1 < 2 ^ 63 → Listing s old from place n place m from old
unfolding named_from
listing_start s old from place n m e f g h = record {
  sum = omega (arith, f.low);
  fewer = f.fewer;
  done = [];
  so_far = adds_none name_assoc from old h;
  same = rw e refl;
}

pub listing_begin : (s old : List ℕ) (from : Reached) (place n : ℕ) → Few 4294967296 from → n < 2 ^ 32 → length old * 1 < 2 ^ 63 → Listing s old from place n place (n - 0) from old
listing_begin s old from place n f g h = listing_start s old from place n (n - 0) (omega arith) f g h

module _ (s old : List ℕ) (from : Reached) (place n here left : ℕ) (x : Reached) (out : List ℕ) (v : Listing s old from place n here left x out) where
  pub listing_few : Few 8589934592 x
  listing_few = record { low = omega (arith, v.sum); fewer = v.fewer }

  pub listing_long : length out ≡ length old
  listing_long = v.so_far.put.long

  listing_end : ids_at s here left ≡ [] → Names (ids_at s place n) from old x out
  listing_end e =
      let d : v.done ≡ ids_at s place n = sym (append-nil v.done) ∙ ap (λ z. v.done ++ z) (sym e) ∙ v.same in
      rw (← d) v.so_far

  listing_none : left ≤ 0 → Names (ids_at s place n) from old x out
  unfolding ids_at
  listing_none h = listing_end (rw (elements-none param s here left h) refl)

  module _ (r : Read Local) (told : param s here ≡ local_at s r) where
    -- the list ends where one is not read
    pub listing_fault : (k : Fault) → r ≡ Err k → Names (ids_at s place n) from old x out
    unfolding ids_at
    listing_fault k e = listing_end (rw (elements-fault param s here left (number k) (told ∙ ap (local_at s) e)) refl)

module _ (s old : List ℕ) (from : Reached) (place n here i : ℕ) (x : Reached) (out : List ℕ) (v : Listing s old from place n here (n - i) x out) where
  pub listing_again : (r : Read Local) (told : param s here ≡ local_at s r) (l : Local) (next : ℕ) (y : Reached) (new : List ℕ) → i < n → r ≡ Ok (l, next) → Names (id_of s l.id ∷ []) x out y new
      → Listing s old from place n next (n - (i + 1)) y new
  unfolding ids_at
  listing_again r told l next y new h e q =
      let z : n - i - 1 ≡ n - (i + 1) = omega arith in
      rw (← z) (record {
        sum = omega (arith, v.sum, q.number);
        fewer = omega (arith, v.fewer, q.number, q.count, named-few x.number (id_of s l.id ∷ []));
        done = v.done ++ (id_of s l.id ∷ []);
        so_far = names_then v.done (id_of s l.id ∷ []) v.so_far q;
        same = append_assoc v.done (id_of s l.id ∷ []) (ids_at s next (n - i - 1))
            ∙ ap (λ z. v.done ++ z) (sym (rw (elements-more param s here (n - i) _ next (omega arith) (told ∙ ap (local_at s) e)) refl))
            ∙ v.same;
      })

  pub listing_done : n ≤ i → Names (ids_at s place n) from old x out
  listing_done h = listing_none s old from place n here (n - i) x out v (omega arith)
