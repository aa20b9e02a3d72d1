use Rattle.import_export.proofs.ValTypes.{put-counted}
use Rattle.import_export.proofs.types.put_types.Goals as goal

pub returns : goal.returns
returns c = search (put-counted) depth 12
