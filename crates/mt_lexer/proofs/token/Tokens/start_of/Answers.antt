use Rattle.std.proofs.Common.{◌≡◌, ◌<◌, length, ap, ◌∙◌, vec_len, arith, rules}
use Rattle.mt_lexer.specs.Tokens.{Spelled, marks_of}
use Rattle.mt_lexer.specs.Verdict.{start_of}
use Rattle.mt_lexer.proofs.Marks.{length-marks_of, start_of-marks_of}
use Rattle.mt_lexer.proofs.token.Tokens.start_of.Goals as goal

pub index-requires : goal.index-requires
index-requires c =
    let e : length (marks_of c.self.inside.list.items) ≡ length c.args.self.now.marks = ap (λ (s : Spelled). length s.marks) c.self.view_is in
    let v : length c.self.inside.list.items ≡ vec_len c.self.inside.list = search rules in
    omega (arith, e, v, length-marks_of c.self.inside.list.items, c.requires)

pub returns : goal.returns
returns c =
    let e : length (marks_of c.self.inside.list.items) ≡ length c.args.self.now.marks = ap (λ (s : Spelled). length s.marks) c.self.view_is in
    let short : c.args.number < length c.self.inside.list.items = omega (arith, e, length-marks_of c.self.inside.list.items, c.requires) in
    start_of-marks_of c.self.inside.list.items c.args.number c.index.result.now short c.index.ensures ∙ ap (λ (s : Spelled). start_of c.args.number s.marks) c.self.view_is
