use Rattle.instr.proofs.Folds.{form_barred}
use Rattle.instr.proofs.skip_form.Goals as goal

pub returns-in_default : goal.returns-in_default
returns-in_default c = form_barred _ _ _ _ c.args.form c.requires.0 c.in_default.not-Operands c.in_default.not-Calling
