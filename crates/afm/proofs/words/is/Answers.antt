use Rattle.std.proofs.Common.{◌∙◌}
use Rattle.afm.proofs.Spelling.{is_bytes_eq}
use Rattle.afm.proofs.words.is.Goals as goal

pub returns : goal.returns
returns c = c.eq.ensures ∙ is_bytes_eq c.args.text.now c.args.keyword.now
