-- Entries of locals: one more, and those of a list.
use Rattle.std.specs.Prelude.{Ok, Err}
use Rattle.syntax.specs.Reads.{Read}
use Prim.Native.Nat.{ℕ, zero, suc, ◌+◌, ◌-◌, ◌*◌, ◌≤◌, ◌<◌}
use mathlib.Core.Path.{◌≡◌, refl, sym, ◌∙◌, ap}
use mathlib.Core.Bool.{Bool, true, false}
use mathlib.Core.List.{List, [], ◌∷◌, ◌++◌, append_assoc, append-nil}
use lib.ListN.{length, length-map}
use native.Mathlib.Omega.{arith}
use native.Mathlib.Nat.{add-zero}
use Rattle.definition.specs.Basic.{same_bytes}
use Rattle.definition.specs.Syntax.{Bytes}
use Rattle.definition.specs.Reader.{many}
use Rattle.definition.specs.Token.{param}
use Rattle.definition.specs.Names.{taken, distinct}
use Rattle.syntax.specs.Refusals.{refusal}
use Rattle.syntax.specs.declared.Fault.{Fault}
use Rattle.syntax.specs.declared.Fault.TheVariants as F
use Rattle.syntax.specs.declared.Refusal.{Refusal}
use Rattle.token.specs.Known.{Gets}
use Rattle.area.specs.Layout.{LOCALS, WORDS}
use Rattle.syntax.specs.Tokens.{id_of}
use Rattle.syntax.specs.declared.Part.{Part}
use Rattle.syntax.specs.TypeUses.{local_at, elements}
use Rattle.syntax.specs.declared.Local.{Local}
use Rattle.name_table.specs.Area.{entry_words, names}
use Rattle.area.specs.Kept.{Kept}
use Rattle.area.proofs.Kept.{kept_same, kept_then}
use Rattle.name_table.proofs.Walk.{entry-written}
use Rattle.name_table.proofs.Tables.{words_kept, names-low, names_snoc}
use Rattle.runs.proofs.Running.{first-readable, rest-readable}
use Rattle.frames.specs.Locals.{ids_at, Clash, More, PutsOne, PutsAll}

-- ## One entry

module _ (s w : List ℕ) (count n : ℕ) (p : Part) (rec : ℕ) (e : n ≡ count) (low : count < 128) (long : WORDS ≤ length w) where
  -- the entries lie in the area
  pub one_table : LOCALS + 3 * n ≤ length w
  one_table = omega arith

  pub one_entry : LOCALS + 3 * n + 2 < length w
  one_entry = omega arith

  module _ (t : Bool) (h : t ≡ taken same_bytes (id_of s p) (names n s w LOCALS)) where
    pub one-taken : (q : Refusal) → t ≡ true → q ≡ refusal F.NameTaken rec → PutsOne s w count p rec (Err q) w
    unfolding PutsOne
    one-taken q y d = record { twice = rw (← e, ← h) y; is = d; long = refl }

    pub one-put : (w' : List ℕ) → t ≡ false → w' ≡ entry_words s w (LOCALS + 3 * n) p → PutsOne s w count p rec (Ok (count + 1)) w'
    unfolding PutsOne
    one-put w' y z = record {
      free = rw (← e, ← h) y;
      entries = rw (z, ← e) (go n one_entry);
      one = refl;
      kept = rw z (words_kept s w (LOCALS + 3 * n) p LOCALS (omega arith));
    }
      where
        go : (n : ℕ) → LOCALS + 3 * n + 2 < length w → names (n + 1) s (entry_words s w (LOCALS + 3 * n) p) LOCALS ≡ names n s w LOCALS ++ (id_of s p ∷ [])
        go n g =
            let d : n + 1 ≡ suc n = omega arith in
            rw (d, names_snoc n s (entry_words s w (LOCALS + 3 * n) p) LOCALS, names-low s w (LOCALS + 3 * n) p n LOCALS (omega arith), entry-written s w (LOCALS + 3 * n) p g) refl

-- ## The identifiers of a list, one at a time

module _ (s : Bytes) (here : ℕ) where
  ids_none : (n : ℕ) → n ≤ 0 → ids_at s here n ≡ []
  unfolding ids_at elements
  ids_none zero h = refl
  ids_none (suc n) h = absurd (omega arith)

  module _ (r : Read Local) (told : param s here ≡ local_at s r) where
    ids_cons : (n : ℕ) (l : Local) (next : ℕ) → 0 < n → r ≡ Ok (l, next) → ids_at s here n ≡ id_of s l.id ∷ ids_at s next (n - 1)
    unfolding ids_at elements
    ids_cons zero l next h d = absurd (omega arith)
    ids_cons (suc n) l next h d = let m : suc n - 1 ≡ n = omega arith in rw (told, d, m)

    ids_fault : (n : ℕ) (k : Fault) → r ≡ Err k → ids_at s here n ≡ []
    unfolding ids_at elements
    ids_fault zero k d = refl
    ids_fault (suc n) k d = rw (told, d)

-- as many as there are elements
pub ids_length : (s : Bytes) (here n : ℕ) → length (ids_at s here n) ≡ length (elements param s here n)
unfolding ids_at
ids_length s here n = length-map (elements param s here n) (λ p. p.id)

-- ## A list

-- so many entries stand, and the rest, which can be read, decides
pub record Putting (s w₀ : List ℕ) (from place n : ℕ) (w : List ℕ) (here left count : ℕ) : Type 0 where
  pub same : distinct same_bytes (names count s w LOCALS) (ids_at s here left) ≡ distinct same_bytes (names from s w₀ LOCALS) (ids_at s place n)
  pub all : names count s w LOCALS ++ ids_at s here left ≡ names from s w₀ LOCALS ++ ids_at s place n
  pub sum : count + length (ids_at s here left) ≡ from + length (ids_at s place n)
  pub low : from + length (ids_at s place n) ≤ 128
  pub kept : Kept LOCALS w₀ w
  pub readable : Gets (many left param s here)

putting_start : (s w : List ℕ) (from place n m : ℕ) → m ≡ n → from + length (elements param s place n) ≤ 128 → Gets (many n param s place) → Putting s w from place n w place m from
putting_start s w from place n m q h g = rw q (record { same = refl; all = refl; sum = refl; low = (let e = ids_length s place n in omega arith); kept = kept_same LOCALS w; readable = g })

pub putting_begin : (s w : List ℕ) (from place n : ℕ) → from + length (elements param s place n) ≤ 128 → Gets (many n param s place) → Putting s w from place n w place (n - 0) from
putting_begin s w from place n h g = putting_start s w from place n (n - 0) (omega arith) h g

module _ {s w₀ : List ℕ} {from place n : ℕ} {w : List ℕ} {here left count : ℕ} (v : Putting s w₀ from place n w here left count) where
  pub putting_area : WORDS ≤ length w₀ → WORDS ≤ length w
  putting_area h = omega (arith, v.kept.long)

  -- none is left
  putting_end : (rec : ℕ) → ids_at s here left ≡ [] → PutsAll s w₀ from place n rec (Ok count) w
  unfolding PutsAll distinct
  putting_end rec e = record {
    free = sym (rw e at v.same);
    entries = sym (append-nil (names count s w LOCALS)) ∙ rw e at v.all;
    all = rw add-zero at (rw e at v.sum);
    kept = v.kept;
  }

  -- the list ends where one is not read
  pub putting_fault : (r : Read Local) → param s here ≡ local_at s r → (rec : ℕ) (k : Fault) → r ≡ Err k → PutsAll s w₀ from place n rec (Ok count) w
  putting_fault r told rec k d = putting_end rec (ids_fault s here r told left k d)

-- `i` of the list are put
module _ {s w₀ : List ℕ} {from place n : ℕ} {w : List ℕ} {here i count : ℕ} (v : Putting s w₀ from place n w here (n - i) count) where
  -- the next one can be read
  pub putting_readable : i < n → Gets (param s here)
  putting_readable h = first-readable s here (n - i) v.readable (omega arith)

  pub putting_done : (rec : ℕ) → n ≤ i → PutsAll s w₀ from place n rec (Ok count) w
  putting_done rec h = putting_end v rec (ids_none s here (n - i) (omega arith))

  module _ (r : Read Local) (told : param s here ≡ local_at s r) where
    module _ (x : Local) (next : ℕ) (h : i < n) (d : r ≡ Ok (x, next)) where
      rest : n - (i + 1) ≡ n - i - 1
      rest = omega arith

      ids : ids_at s here (n - i) ≡ id_of s x.id ∷ ids_at s next (n - (i + 1))
      ids = rw rest (ids_cons s here r told (n - i) x next (omega arith) d)

      -- there is room for one more
      pub putting_room : count < 128
      putting_room = (let e = ap length ids in let a = v.sum in let b = v.low in omega arith)

      module _ (rec : ℕ) (w' : List ℕ) where
        pub putting_again : (m : ℕ) → PutsOne s w count x.id rec (Ok m) w' → Putting s w₀ from place n w' next (n - (i + 1)) m
        unfolding PutsOne distinct
        putting_again m put =
            let o : More s w count (id_of s x.id) m w' = put in
            record {
              same = rw o.entries (sym (rw (ids, o.free) refl) ∙ v.same);
              all = rw o.entries (append_assoc (names count s w LOCALS) (id_of s x.id ∷ []) (ids_at s next (n - (i + 1))) ∙ sym (rw ids refl) ∙ v.all);
              sum = (let e = ap length ids in let a = v.sum in let b = o.one in omega arith);
              low = v.low;
              kept = kept_then v.kept o.kept;
              readable = rw rest (rest-readable s here (n - i) v.readable r told x next (omega arith) d);
            }

        pub putting_stops : (j : Refusal) → PutsOne s w count x.id rec (Err j) w' → PutsAll s w₀ from place n rec (Err j) w'
        unfolding PutsOne PutsAll distinct
        putting_stops j put =
            let o : Clash (taken same_bytes (id_of s x.id) (names count s w LOCALS)) rec j w w' = put in
            record { twice = sym v.same ∙ rw (ids, o.twice) refl; is = o.is; long = o.long ∙ v.kept.long }

pub ruleset puttings = (putting_done, putting_fault, putting_again, putting_stops)
