use Rattle.std.proofs.Common.{rules, ◌≡◌, refl, Some, None}
use Rattle.std.proofs.lemmas.Result.{on_ok_weaker}
use Rattle.mt_session.specs.declared.party.Standing.TheVariants.{Asked, Over}
use Rattle.mt_session.specs.Parties.{standing_of}
use Rattle.mt_session.proofs.Wires.{told-undelivered}
use Rattle.mt_session.proofs.step.deliver.Goals as goal

pub returns-in-Some-Asked-clause-done : goal.returns-in-Some-Asked-clause-done
returns-in-Some-Asked-clause-done g c =
    let k = c.args.client in
    let m = c.args.message in
    let ps = c.args.parties.now.items in
    let stands : standing_of k m ps ≡ Some Asked = search rules in
    on_ok_weaker c.skip.result
    (λ lines small. told-undelivered small k m (Some Asked) ps c.args.out.now.items _ _ c.requires.fits stands (λ reply. refl) (search rules))
    c.skip.ensures.lines

pub returns-in-Some-Over-clause-done : goal.returns-in-Some-Over-clause-done
returns-in-Some-Over-clause-done g c =
    let k = c.args.client in
    let m = c.args.message in
    let ps = c.args.parties.now.items in
    let stands : standing_of k m ps ≡ Some Over = search rules in
    on_ok_weaker c.skip-in-Some-Over.result
    (λ lines small. told-undelivered small k m (Some Over) ps c.args.out.now.items _ _ c.requires.fits stands (λ reply. refl) (search rules))
    c.skip-in-Some-Over.ensures.lines

pub returns-clause-done : goal.returns-clause-done
returns-clause-done g c =
    let k = c.args.client in
    let m = c.args.message in
    let ps = c.args.parties.now.items in
    let stands : standing_of k m ps ≡ None = search rules in
    on_ok_weaker c.skip-in-None.result
    (λ lines small. told-undelivered small k m None ps c.args.out.now.items _ _ c.requires.fits stands (λ reply. refl) (search rules))
    c.skip-in-None.ensures.lines
