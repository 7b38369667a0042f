use Rattle.sheet.proofs.Continuing.{laid_sheet, lawful}
use Rattle.sheet.proofs.law.law.Goals as goal

pub returns : goal.returns
returns g c = record { lawful = lawful _; laid = λ k h f. laid_sheet k h _ f }
