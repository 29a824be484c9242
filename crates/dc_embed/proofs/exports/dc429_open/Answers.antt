use Rattle.std.proofs.Common.{refl}
use Rattle.dc_embed.proofs.Stepped.{not_opened}
use Rattle.dc_embed.proofs.exports.dc429_open.Goals as goal

pub returns-in-Err : goal.returns-in-Err
returns-in-Err c = not_opened _ _ c.open.result _ c.in-Err.fault _ _ c.open.ensures c.in-Err.ensures c.close.ensures c.report.ensures refl
