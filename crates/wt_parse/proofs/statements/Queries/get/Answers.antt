use Rattle.std.proofs.Common.{length, ap, refl, arith}
use Rattle.std.proofs.lemmas.List.{length-map}
use Rattle.std.proofs.lemmas.Option.{slice_get_read}
use Rattle.wt_parse.specs.Held.{shown}
use Rattle.wt_parse.proofs.Lawful.{lawful_got}
use Rattle.wt_parse.proofs.statements.Queries.get.Goals as goal

pub returns-clause-lawful : goal.returns-clause-lawful
returns-clause-lawful c =
    let pieces = c.self.inside.pieces.items in
    let size = ap (λ f. length f.statements) c.self.view_is in
    let here = slice_get_read pieces (length pieces) c.args.n c.index-piece.result.now refl (omega (arith, size, length-map pieces (shown c.self.inside.tokens), c.requires)) c.index-piece.ensures in
    lawful_got c.self.inside.bytes.now c.self.inside.tokens pieces c.args.n c.index-piece.result.now c.answer.result c.self.invariant.1 here c.answer.ensures
