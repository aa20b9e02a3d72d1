-- The entries of the sections: the bytes of what is resolved, and what the answers of the resolvers mean.
use Rattle.std.specs.Prelude.{ℕ, ◌≡◌, List, [], ◌∷◌, ◌++◌, length}
use Rattle.definition.specs.Syntax.{Bytes, Space, code, Item}
use Rattle.definition.specs.Binary.{u, sized, entries, joined}
use Rattle.emit.specs.Put.{Put}
use Rattle.import_export.specs.declared.export.Ends.{Ends}

-- ## Items

abbrev pub first_of : List (ℕ × Bytes) → Bytes
first_of [] = []
first_of ((k, b) ∷ es) = b

-- the entry of an item that has a single one: of every item but a function
unfoldable pub entry_of : Item → Bytes
entry_of i = first_of (entries i)

-- ## Exports

-- the exports that stand inline, each of the item numbered n
unfoldable pub export_entries : Space → ℕ → List Bytes → List Bytes
export_entries k n [] = []
export_entries k n (e ∷ es) = (sized e ++ (code k ∷ u n)) ∷ export_entries k n es

-- some entries were put, and counted
pub record Lists (es : List Bytes) (old : List ℕ) (at : ℕ) (r : Ends) (new : List ℕ) : Type 0 where
  pub put : Put old at (joined es) r.to new
  pub number : r.count ≡ length es
