use Rattle.std.proofs.Common.{◌≡◌, false}
use Rattle.std.proofs.lemmas.List.Elements.{All-contains}
use Rattle.mt_syntax.specs.First.{comes_before}
use Rattle.mt_syntax.proofs.Order.{least, member}
use Rattle.mt_stage.specs.Accepted.{broken_places}
use Rattle.mt_stage.proofs.laws.refusal_is_the_first.Goals as goal

pub returns-clause-broken : goal.returns-clause-broken
returns-clause-broken c = λ p r place is. member (record { place = place; rule = r }) (broken_places p) is

pub returns-clause-first : goal.returns-clause-first
returns-clause-first c = λ p r s place other is breaks.
    All-contains (λ b. comes_before b (record { place = place; rule = r }) ≡ false) (broken_places p) (record { place = other; rule = s })
    (least (record { place = place; rule = r }) (broken_places p) is) breaks
