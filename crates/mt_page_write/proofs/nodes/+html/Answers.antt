use Rattle.std.proofs.Common.{◌≡◌, ◌++◌, false, append_assoc, sym, ◌∙◌, ap}
use Rattle.std.proofs.lemmas.Result.{err_from_is_err_and}
use Rattle.std.specs.List.{flat_map}
use Rattle.std.specs.Prelude.{encode_utf8_all}
use Rattle.mt_tree.specs.Limits.{body_limit}
use Rattle.mt_tree.specs.Tables.{is_void_tag}
use Rattle.mt_page_write.specs.Written.{closing_written, html_written, opening_written}
use Rattle.mt_page_write.proofs.Carried.{children_written}
use Rattle.mt_page_write.proofs.Lengths.{all_longer, next_text, part_longer, written_longer}
use Rattle.mt_page_write.proofs.nodes.+html.Goals as goal

pub append_children-returns-in_err-append_html-clause-long : goal.append_children-returns-in_err-append_html-clause-long
append_children-returns-in_err-append_html-clause-long t c refused =
    let p = err_from_is_err_and c.from_residual.result c.from_residual.ensures.1 in
    all_longer (html_written c.args.tildes.now) c.args.children.now c.loop-child.child-index c.child-item.result body_limit c.args.start
    c.args.into.now.items c.loop-child.into.items c.child-item.is c.loop-child-test.true c.loop-child.invariant (c.in_err-append_html.ensures.long cc)

pub append_children-returns-then-is_past_limit-clause-long : goal.append_children-returns-then-is_past_limit-clause-long
append_children-returns-then-is_past_limit-clause-long t c refused =
    let f = html_written c.args.tildes.now in
    all_longer f c.args.children.now c.loop-child.child-index c.child-item.result body_limit c.args.start c.args.into.now.items c.loop-child.into.items
    c.child-item.is c.loop-child-test.true c.loop-child.invariant
    (written_longer body_limit c.args.start c.loop-child.into.items (f c.child-item.result) c.append_html.new.into.items c.in_ok-append_html.ensures.text (c.is_past_limit.ensures.0 c.if-is_past_limit.true))

pub append_children-loop-child-preserved : goal.append_children-loop-child-preserved
append_children-loop-child-preserved t c =
    next_text (html_written c.args.tildes.now) c.args.children.now c.loop-child.child-index c.child-item.result c.args.into.now.items c.loop-child.into.items
    c.append_html.new.into.items c.child-item.is c.loop-child-test.true c.loop-child.invariant c.in_ok-append_html.ensures.text

pub append_html-returns-in_err-append_children-in-Element-clause-long : goal.append_html-returns-in_err-append_children-in-Element-clause-long
append_html-returns-in_err-append_children-in-Element-clause-long t c refused =
    let p = err_from_is_err_and c.from_residual-in_err-append_children-in-Element.result c.from_residual-in_err-append_children-in-Element.ensures.1 in
    let element = c.in-Element.element in
    let test : is_void_tag (encode_utf8_all element.tag) ≡ false = ap is_void_tag (sym c.as_bytes.ensures) ∙ sym c.tag_void.ensures ∙ c.if-tag_void.false in
    let opened : c.append_opening.new.into.items ≡ c.args.into.now.items ++ opening_written c.args.tildes.now element.tag element.attributes =
    c.in_ok-append_opening-in-Element.ensures.text ∙ ap (λ s. c.args.into.now.items ++ opening_written c.args.tildes.now element.tag s) c.items.ensures in
    let long = c.in_err-append_children-in-Element.ensures.long cc in
    part_longer body_limit c.args.start c.args.into.now.items (opening_written c.args.tildes.now element.tag element.attributes)
    (flat_map (html_written c.args.tildes.now) element.children) (closing_written element.tag) c.append_opening.new.into.items _ opened
    (children_written c.args.tildes.now c.args.html.now element c.in-Element.is test) (rw (sym c.items-in-Element.ensures) long)

pub append_html-returns-in_ok-append_closing-in-Element-clause-text : goal.append_html-returns-in_ok-append_closing-in-Element-clause-text
append_html-returns-in_ok-append_closing-in-Element-clause-text t c =
    let element = c.in-Element.element in
    let test : is_void_tag (encode_utf8_all element.tag) ≡ false = ap is_void_tag (sym c.as_bytes.ensures) ∙ sym c.tag_void.ensures ∙ c.if-tag_void.false in
    rw (
      children_written c.args.tildes.now c.args.html.now element c.in-Element.is test,
      c.in_ok-append_closing-in-Element.ensures.text,
      c.in_ok-append_children-in-Element.ensures.text,
      c.in_ok-append_opening-in-Element.ensures.text,
      c.items.ensures,
      c.items-in-Element.ensures,
    ) (simp append_assoc)
