-- The three files of `rewrite`.
use Rattle.std.specs.Prelude.{ℕ, List}
use Rattle.std.specs.declared.option.Option.{Option}
use Rattle.wt_outcome.specs.declared.input.Input.{Input}
use Rattle.wt_outcome.specs.Inputs.{IsInput}
use Rattle.wt_rewriting.specs.declared.names.Names.{Names as Spoken}

-- their names, as bytes
pub record Names : Type 0 where
  pub rules : List ℕ
  pub schema : List ℕ
  pub queries : List ℕ

abbrev pub named : List ℕ → List ℕ → List ℕ → Names
named rules schema queries = record { rules = rules; schema = schema; queries = queries }

-- those that the code holds
abbrev pub names_of : Spoken → Names
names_of n = named n.rules.now n.schema.now n.queries.now

-- what the three files may have given
pub record AreInputs (told : List ℕ → Option (List ℕ)) (names : Names) (rules schema queries : Input) : Type 0 where
  pub rules_is : IsInput (told names.rules) rules
  pub schema_is : IsInput (told names.schema) schema
  pub queries_is : IsInput (told names.queries) queries

-- some inputs that the files may have given, of which P holds
abbrev pub WithInputs : (List ℕ → Option (List ℕ)) → Names → (Input → Input → Input → Type 0) → Type 0
WithInputs told names P = (rules : Input) × (schema : Input) × (queries : Input) × AreInputs told names rules schema queries × P rules schema queries
