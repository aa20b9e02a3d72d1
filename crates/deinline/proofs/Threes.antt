-- What a field brings beside its first entry: only an item brings more.
use Rattle.std.specs.Prelude.{◌≡◌, None, refl}
use Rattle.deinline.specs.Entry.{item_in}
use Rattle.syntax.specs.declared.Part.{Part}
use Rattle.syntax.specs.declared.List as Code
use Rattle.syntax.specs.declared.Source.{Source}
use Rattle.syntax.specs.declared.Field.{Field}
use Rattle.syntax.specs.declared.Field.TheVariants as F

pub not_item : (f : Field) → ((i : Part) (es : Code.List) (x : Source) → f ≡ F.Item i es x → ⊥) → None ≡ item_in f
unfolding item_in
not_item (F.Type i ps rs) h = refl
not_item (F.Import n i x) h = refl
not_item (F.Item i es x) h = absurd (h i es x refl)
not_item (F.Export n k x) h = refl
not_item (F.Start x) h = refl
not_item (F.Elem i m xs) h = refl
not_item (F.Data i m d) h = refl
