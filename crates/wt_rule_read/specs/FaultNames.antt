-- The names of faults in printed lines.
use Rattle.std.specs.Prelude.{ℕ, List, codes}
use Rattle.wt_rule_line.specs.declared.fault.RuleFault.{RuleFault}
use Rattle.wt_rule_line.specs.declared.fault.RuleFault.TheVariants.{Head, Syntax, Symbol, TooLong, Anchor, Weight, Root, Atom, Order, StatedWeight, NotProved, Count}

abbrev pub rules_name : RuleFault → List ℕ
rules_name Head = codes "Head"
rules_name Syntax = codes "Syntax"
rules_name Symbol = codes "Symbol"
rules_name TooLong = codes "TooLong"
rules_name Anchor = codes "Anchor"
rules_name Weight = codes "Weight"
rules_name Root = codes "Root"
rules_name Atom = codes "Atom"
rules_name Order = codes "Order"
rules_name StatedWeight = codes "StatedWeight"
rules_name NotProved = codes "NotProved"
rules_name Count = codes "Count"
