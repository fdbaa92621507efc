-- Files whose bytes were not read.
use Rattle.std.proofs.Common.{ℕ, List}
use Rattle.std.specs.declared.option.Option.{Option}
use Rattle.wt_outcome.specs.declared.input.Input.{Input}
use Rattle.wt_outcome.proofs.Inputs.{any_input}
use Rattle.wt_rewriting.specs.Files.{AreInputs, Names}

pub any_inputs : (told : List ℕ → Option (List ℕ)) (names : Names) → (rules : Input) × (schema : Input) × (queries : Input) × AreInputs told names rules schema queries
any_inputs told names =
    let rules = any_input (told names.rules) in
    let schema = any_input (told names.schema) in
    let queries = any_input (told names.queries) in
    (rules.0, schema.0, queries.0, record { rules_is = rules.1; schema_is = schema.1; queries_is = queries.1 })
