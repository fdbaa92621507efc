use Rattle.std.proofs.Common.{rules, arith, ◌≡◌, ◌+◌, ◌∷◌, ◌++◌, [], drop, ap, sym, ◌∙◌, append_assoc}
use Rattle.wt_resolve.proofs.Lookups.{get_drop}
use Rattle.wt_resolve.proofs.lookup.ScopeItem.push_names.Goals as goal

pub names-preserved : goal.names-preserved
names-preserved c =
    let names = c.args.self.now.names in
    let name = c.name.result.now in
    let pushed : c.push.new.self.items ≡ c.names.out.items ++ name ∷ [] = search rules in
    record {
      within = search (rules, arith);
      so_far = ap (λ l. l ++ drop (c.names.i + 1) names) pushed ∙ append_assoc c.names.out.items (name ∷ []) (drop (c.names.i + 1) names) ∙ ap (λ l. c.names.out.items ++ l) (sym (get_drop names c.names.i name c.name.ensures)) ∙ c.names.invariant.so_far;
    }
