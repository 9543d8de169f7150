use Rattle.std.proofs.Common.{◌≡◌, sym, ap, subst, ◌∙◌}
use Rattle.mt_grammar.specs.Token.{Tokens}
use Rattle.mt_parser_machine.specs.Refused.{IsOffending}
use Rattle.mt_parser_marks.specs.Tokens.{tokens_in}
use Rattle.mt_parser_marks.specs.Views.{tokens_of}
use Rattle.mt_parser_marks.specs.NodeViews.{nodes_of}
use Rattle.mt_parser.proofs.Few.{few_list}
use Rattle.mt_parser.proofs.AnswerPlaces.{same_place}
use Rattle.mt_parser.proofs.Small.{few_nodes}
use Rattle.mt_parser.proofs.parsing.parse.Goals as goal

pub read-requires-clause-few : goal.read-requires-clause-few
read-requires-clause-few c = rw c.deref.ensures.value (few_list c.in_ok-list.list.items c.args.tokens.now c.in_ok-list.ensures.tokens c.requires.read)

pub returns-in-Err-At : goal.returns-in-Err-At
returns-in-Err-At c =
    let same : tokens_of c.deref.result.now ≡ tokens_in c.args.tokens.now = ap tokens_of c.deref.ensures.value ∙ c.in_ok-list.ensures.tokens in
    let again : tokens_of c.deref-in-Err-At.result.now ≡ tokens_in c.args.tokens.now = ap tokens_of c.deref-in-Err-At.ensures.value ∙ c.in_ok-list.ensures.tokens in (
      c.in-Err-At.number,
      subst (λ (ts : Tokens). IsOffending ts c.in-Err-At.number) same (c.refused_is_offending.ensures _ _ (rw c.in-Err-At.field-0-is at c.in-Err-At.ensures.refused)),
      same_place _ c.source-source.result.now c.args.tokens.now.source c.in-Err-At.number (tokens_of c.deref-in-Err-At.result.now) (tokens_in c.args.tokens.now) (rw c.in-Err-At.field-0-is at c.place_at.ensures) c.source-source.ensures again,
    )

pub returns-in-Some : goal.returns-in-Some
returns-in-Some c =
    let same : tokens_of c.deref.result.now ≡ tokens_in c.args.tokens.now = ap tokens_of c.deref.ensures.value ∙ c.in_ok-list.ensures.tokens in
    let tree = c.read_is_derived.ensures (tokens_in c.args.tokens.now) (nodes_of c.in-Ok.nodes.items) (rw same at c.in-Ok.ensures.read) in (
      tree.0,
      tree.1,
      sym (c.in_ok-place.ensures.tree tree.0 (ap nodes_of c.deref-2.ensures.value ∙ tree.2)) ∙ c.in-Some.is,
    )

pub build-requires-clause-few : goal.build-requires-clause-few
build-requires-clause-few c =
    let same : tokens_of c.deref.result.now ≡ tokens_in c.args.tokens.now = ap tokens_of c.deref.ensures.value ∙ c.in_ok-list.ensures.tokens in
    let tree = c.read_is_derived.ensures (tokens_in c.args.tokens.now) (nodes_of c.in-Ok.nodes.items) (rw same at c.in-Ok.ensures.read) in
    let bound = c.nodes_are_few.ensures (tokens_in c.args.tokens.now) tree.0 tree.1 in
    rw c.deref-in-None.ensures.value (few_nodes c.in_ok-list.list.items c.in-Ok.nodes.items c.args.tokens.now tree.0 c.in_ok-list.ensures.tokens c.requires.read tree.2 bound)

pub build-requires-clause-tree : goal.build-requires-clause-tree
build-requires-clause-tree c =
    let same : tokens_of c.deref.result.now ≡ tokens_in c.args.tokens.now = ap tokens_of c.deref.ensures.value ∙ c.in_ok-list.ensures.tokens in
    let tree = c.read_is_derived.ensures (tokens_in c.args.tokens.now) (nodes_of c.in-Ok.nodes.items) (rw same at c.in-Ok.ensures.read) in
    (tree.0, ap nodes_of c.deref-in-None.ensures.value ∙ tree.2)

pub returns : goal.returns
returns c =
    let same : tokens_of c.deref.result.now ≡ tokens_in c.args.tokens.now = ap tokens_of c.deref.ensures.value ∙ c.in_ok-list.ensures.tokens in
    let tree = c.read_is_derived.ensures (tokens_in c.args.tokens.now) (nodes_of c.in-Ok.nodes.items) (rw same at c.in-Ok.ensures.read) in (
      tree.0,
      tree.1,
      sym (c.in_ok-place.ensures.tree tree.0 (ap nodes_of c.deref-2.ensures.value ∙ tree.2)) ∙ c.in-None.is,
      c.in_ok-build-in-None.ensures tree.0 (ap nodes_of c.deref-in-None.ensures.value ∙ tree.2),
    )
