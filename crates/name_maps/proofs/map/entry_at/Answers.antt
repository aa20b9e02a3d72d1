use Rattle.name_maps.proofs.Maps.{entry-is, entry-none}
use Rattle.name_maps.proofs.map.entry_at.Goals as goal

pub returns-then-tag_of-tag : goal.returns-then-tag_of-tag
returns-then-tag_of-tag c = search entry-is

pub returns : goal.returns
returns c = search entry-none
