use Rattle.name_maps.proofs.Maps.{place-put}
use Rattle.name_maps.proofs.map.put_place.Goals as goal

pub returns : goal.returns
returns c = search place-put
