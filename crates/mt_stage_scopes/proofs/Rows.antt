-- Rows that are gone through from their start.
use Rattle.std.proofs.Common.{◌≡◌, ℕ, ◌+◌, ◌<◌, List, [], ◌∷◌, ◌++◌, length, get_or, map, take, append_assoc, sym, ap, ◌∙◌}
use Rattle.std.proofs.lemmas.List.{append-nil, map-append}
use Rattle.mt_stage_declared.proofs.Rows.{take_next}
use Rattle.mt_stage_scopes.specs.Sites.{Sited, sites_in}
use Rattle.mt_stage_scopes.specs.declared.around.Around.{Around}
use Rattle.mt_stage_scopes.specs.declared.site.Site.{Site}

pub five : {A : Type 0} (s a b c d : List A) → (((s ++ a) ++ b) ++ c) ++ d ≡ s ++ (a ++ (b ++ (c ++ d)))
five s a b c d = simp append_assoc

sites_more : (ps : List Sited) (p : Sited) (around : Around) → sites_in (ps ++ p ∷ []) around ≡ sites_in ps around ++ p.found.sites around
sites_more [] p around = append-nil (p.found.sites around)
sites_more (q ∷ ps) p around =
    ap (λ ss. q.found.sites around ++ ss) (sites_more ps p around) ∙ sym (append_assoc (q.found.sites around) (sites_in ps around) (p.found.sites around))

module _ {A : Type 0} (f : A → Sited) (xs : List A) (i : ℕ) (x : A) (lt : i < length xs) (is : x ≡ get_or xs i x) where
  -- a list to which the sites of one more item are added
  pub sites_next : (around : Around) (start old new : List Site) → new ≡ old ++ (f x).found.sites around → old ≡ start ++ sites_in (map f (take i xs)) around
      → new ≡ start ++ sites_in (map f (take (i + 1) xs)) around
  sites_next around start old new pushed so_far =
      pushed ∙ ap (λ ss. ss ++ (f x).found.sites around) so_far ∙ append_assoc start (sites_in (map f (take i xs)) around) ((f x).found.sites around)
      ∙ ap (λ ss. start ++ ss) (sym (sites_more (map f (take i xs)) (f x) around))
      ∙ ap (λ ps. start ++ sites_in ps around) (sym (ap (map f) (take_next xs i x lt is) ∙ map-append f (take i xs) (x ∷ [])))
