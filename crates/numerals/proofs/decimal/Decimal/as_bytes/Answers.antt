use Rattle.std.proofs.Common.{arith}
use Rattle.std.proofs.lemmas.Slice.{between_to_end}
use Rattle.numerals.proofs.decimal.Decimal.as_bytes.Goals as goal

pub returns : goal.returns
returns c = between_to_end c.args.self.now.digits c.args.self.now.start 20 (omega arith)
