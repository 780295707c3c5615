-- `round_channel` meets its contract: the capped value is what `nearest` asks for, and rounds to the channel.
use Rattle.std.proofs.Common.{◌∙◌}
use Rattle.binary32.proofs.Channels.{capped}
use Rattle.binary32.proofs.round_channel.Goals as goal

pub nearest-requires : goal.nearest-requires
nearest-requires c = let f = (capped c.args.x c.cap-y.result c.requires c.cap-y.ensures).0 in record { fact_1 = f.0; fact_2 = f.1 }

pub returns : goal.returns
returns c =
    c.nearest.ensures ∙ (capped c.args.x c.cap-y.result c.requires c.cap-y.ensures).1
