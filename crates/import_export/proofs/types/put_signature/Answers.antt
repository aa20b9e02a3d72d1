use Rattle.import_export.proofs.ValTypes.{put-func}
use Rattle.import_export.proofs.types.put_signature.Goals as goal

pub returns : goal.returns
returns c = search (put-func) depth 12
