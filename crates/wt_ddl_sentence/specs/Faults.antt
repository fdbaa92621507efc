-- Which faults of a schema are of its grammar, and which are of what it names.
use Rattle.std.specs.Prelude.{◌≡◌, Bool, true, false, not, Ok, Err}
use Rattle.wt_ddl.specs.declared.fault.DdlFault.{DdlFault}
use Rattle.wt_ddl.specs.declared.fault.DdlFault.TheVariants as fault
use Rattle.wt_ddl.specs.Refusals.{Refusal, refused, odd, Checked}

-- a word or symbol stands where none such may
abbrev pub is_of_grammar : DdlFault → Bool
is_of_grammar fault.Syntax = true
is_of_grammar fault.UnsupportedStatement = true
is_of_grammar fault.UnsupportedType = true
is_of_grammar fault.UnsupportedClause = true
is_of_grammar _ = false

-- The fault says nothing of the grammar: it is of the names in the text, of keys and references, or of how many tables and
-- columns there are.
abbrev pub is_of_names : Refusal → Bool
is_of_names (refused f) = not (is_of_grammar f)
is_of_names (odd f) = false

-- it is this value, or refused for names
abbrev pub IsOrNames : {A : Type 0} → A → Checked A → Type 0
IsOrNames x (Ok y) = y ≡ x
IsOrNames x (Err e) = is_of_names e.0 ≡ true
