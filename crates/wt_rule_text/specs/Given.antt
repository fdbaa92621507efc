-- What a reader answers beside what there is to read.
use Rattle.std.specs.Prelude.{◌≡◌, Result, Ok, Err, Some, None}
use Rattle.std.specs.declared.option.Option.{Option}
use Rattle.wt_rule_text.specs.declared.parsed.LineError.{LineError}
use Rattle.wt_rule_text.specs.declared.parsed.LineError.TheVariants.{Syntax, Memory}

-- the value that there is, as `view` sees it, or Syntax where there is none; want of memory says nothing
abbrev pub Gives : {A B : Type 0} → (A → B) → Option B → Result A LineError → Type 0
Gives view there (Ok x) = there ≡ Some (view x)
Gives view there (Err Syntax) = there ≡ None
Gives view there (Err Memory) = Unit {0}
