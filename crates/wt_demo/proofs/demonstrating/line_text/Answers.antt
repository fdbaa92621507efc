use Rattle.std.proofs.Common.{◌≡◌, ◌∙◌, ◌++◌, ap, rules}
use Rattle.std.specs.Prelude.{string_bytes}
use Rattle.wt_demo.specs.Demo.{costs_text, counts_text}
use Rattle.wt_demo.proofs.demonstrating.line_text.Goals as goal

pub returns : goal.returns
returns c =
    let counts = c.in_ok-text.ensures c.args.all.now.matches c.args.all.now.before c.args.all.now.after in
    let costs = c.in_ok-costs.ensures c.args.all.now.printed c.args.all.now.refused in
    let joined : string_bytes c.push_str.new.self ≡ string_bytes c.in_ok-text.text ++ string_bytes c.in_ok-costs.costs = search rules in
    joined ∙ (ap (λ x. x ++ string_bytes c.in_ok-costs.costs) counts ∙ ap (λ x. counts_text c.args.count c.args.all.now ++ x) costs)
