use Rattle.wt_symbol.proofs.SymbolLemmas.{lawful_sizes}
use Rattle.wt_side_forms.proofs.ExistLaws.{sides_exist}
use Rattle.wt_side_forms.proofs.RoomLaws.{few_operators}
use Rattle.wt_side_forms.proofs.laws.forms_of_sides_have_room.Goals as goal

pub returns-clause-exist : goal.returns-clause-exist
returns-clause-exist c = λ s A. sides_exist s A

pub returns-clause-narrow : goal.returns-clause-narrow
returns-clause-narrow c = λ s A few. few_operators s A few

pub returns-clause-lawful : goal.returns-clause-lawful
returns-clause-lawful c = λ p lawful. lawful_sizes p lawful
