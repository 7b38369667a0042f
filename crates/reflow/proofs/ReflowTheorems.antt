-- The laws of texts and their edits, together.
use Rattle.std.proofs.Common.{ℕ}
use Rattle.metrics.specs.Meaning.{Meaning}
use Rattle.page.specs.Policies.{Rules}
use Rattle.reflow.specs.Theorems.{ReflowLaws}
use Rattle.reflow.proofs.AllRows.{all_rows}
use Rattle.reflow.proofs.EditTheorems.{edits_lay_anew}
use Rattle.reflow.proofs.ScreenTheorem.{records_repaint}

pub reflow_laws : (m : Meaning) (P : Rules) (w : ℕ) → ReflowLaws m P w
reflow_laws m P w = record {
  all_rows = all_rows m P w;
  lay_anew = edits_lay_anew m P w;
  repaint = records_repaint m P w (all_rows m P w) (edits_lay_anew m P w);
}
