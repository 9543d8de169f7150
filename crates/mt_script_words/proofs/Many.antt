-- A refusal inside a loop that reads.
use Rattle.std.proofs.Common.{◌≡◌, ℕ, suc, ◌-◌, ◌+◌, ◌<◌, List, Option, None, refl, sym, ◌∙◌, arith}
use Rattle.mt_json.specs.Reading.{◌>>=◌, Parse, many}
use Rattle.mt_json.proofs.Many.{SoFar, with_front}
use Rattle.mt_script_words.specs.Outcome.{Refuses}
use Rattle.mt_script_words.specs.declared.refusal.CodeRefusal.{CodeRefusal}
use Rattle.mt_script_words.specs.declared.refusal.CodeRefusal.TheVariants as refusal

pub fails : {A : Type 0} (e : CodeRefusal) (step : Parse (Option A)) (front : List A) (count i : ℕ) (rest : List ℕ) (total : Option (List A × List ℕ)) → i < count → Refuses e (step rest)
    → SoFar step (count - i) front rest total → Refuses e total
unfolding many
fails refusal.NoMemory step front count i rest total lt h so_far = tt
fails refusal.NotCode step front count i rest total lt h so_far =
    let k : count - i ≡ suc (count - (i + 1)) = omega arith in
    let one : with_front front (many step (count - i) rest) ≡ None = rw (k, h) refl in
    sym so_far ∙ one

-- what is made of what was read fails with it
pub refuses_after : {X Y : Type 0} (e : CodeRefusal) (o : Option X) (f : X → Option Y) → Refuses e o → Refuses e (o >>= f)
refuses_after refusal.NoMemory o f h = tt
refuses_after refusal.NotCode o f h = rw h refl
