-- What the normal form of children is.
use Rattle.std.proofs.Common.{◌≡◌, ℕ, List, [], ◌∷◌, ◌++◌, Option, None, Some, refl, sym, ap, ◌∙◌, subst}
use Rattle.mt_html.proofs.Before.{a_text, normal-cons, normal-nil, text_of-Text, Text-from_text_of}
use Rattle.mt_html.specs.Normal.{IsNormal, joined, normal, text_of, with_node, with_text}
use Rattle.mt_tree.specs.declared.html.Html.{Html}

heads : {A : Type 0} (x y : A) (xs ys : List A) → x ∷ xs ≡ y ∷ ys → x ≡ y
heads x y xs ys e = cc

tails : {A : Type 0} (x y : A) (xs ys : List A) → x ∷ xs ≡ y ∷ ys → xs ≡ ys
tails x y xs ys e = cc

nil_is_no_cons : {A : Type 0} (x : A) (xs : List A) → [] ≡ x ∷ xs → ⊥
nil_is_no_cons x xs e = cc

module _ (C : Type 0) where
  same_text : (a b : List ℕ) → a_text C a ≡ a_text C b → a ≡ b
  same_text a b e = let s : Some a ≡ Some b = sym (text_of-Text C a) ∙ ap text_of e ∙ text_of-Text C b in cc

  is_no_text : (h : Html C) (text : List ℕ) → text_of h ≡ None → h ≡ a_text C text → ⊥
  is_no_text h text none e = let s : None ≡ Some text = sym none ∙ ap text_of e ∙ text_of-Text C text in cc

  -- the node may stand first before the list
  record Leads (h : Html C) (items : List (Html C)) : Type 0 where
    pub not_empty : h ≡ a_text C [] → ⊥
    pub not_beside : (rest : List (Html C)) (a b : List ℕ) → h ≡ a_text C a → items ≡ a_text C b ∷ rest → ⊥

  cons_empty : (h : Html C) (items : List (Html C)) → Leads h items → IsNormal items → (before rest : List (Html C)) → h ∷ items ≡ before ++ a_text C [] ∷ rest → ⊥
  cons_empty h items l n [] rest e = l.not_empty (heads h (a_text C []) items rest e)
  cons_empty h items l n (x ∷ before) rest e = n.none_empty before rest (tails h x items (before ++ a_text C [] ∷ rest) e)

  cons_beside : (h : Html C) (items : List (Html C)) → Leads h items → IsNormal items → (before rest : List (Html C)) (a b : List ℕ) → h ∷ items ≡ before ++ a_text C a ∷ a_text C b ∷ rest → ⊥
  cons_beside h items l n [] rest a b e = l.not_beside rest a b (heads h (a_text C a) items (a_text C b ∷ rest) e) (tails h (a_text C a) items (a_text C b ∷ rest) e)
  cons_beside h items l n (x ∷ before) rest a b e = n.none_beside before rest a b (tails h x items (before ++ a_text C a ∷ a_text C b ∷ rest) e)

  cons_normal : (h : Html C) (items : List (Html C)) → Leads h items → IsNormal items → IsNormal (h ∷ items)
  cons_normal h items l n = record { none_empty = cons_empty h items l n; none_beside = cons_beside h items l n }

  rest_normal : (h : Html C) (items : List (Html C)) → IsNormal (h ∷ items) → IsNormal items
  rest_normal h items n = record {
    none_empty = λ before rest e. n.none_empty (h ∷ before) rest (ap (λ xs. h ∷ xs) e);
    none_beside = λ before rest a b e. n.none_beside (h ∷ before) rest a b (ap (λ xs. h ∷ xs) e);
  }

  none_empty_in_nil : (before rest : List (Html C)) → [] ≡ before ++ a_text C [] ∷ rest → ⊥
  none_empty_in_nil [] rest e = nil_is_no_cons (a_text C []) rest e
  none_empty_in_nil (x ∷ before) rest e = nil_is_no_cons x (before ++ a_text C [] ∷ rest) e

  none_beside_in_nil : (before rest : List (Html C)) (a b : List ℕ) → [] ≡ before ++ a_text C a ∷ a_text C b ∷ rest → ⊥
  none_beside_in_nil [] rest a b e = nil_is_no_cons (a_text C a) (a_text C b ∷ rest) e
  none_beside_in_nil (x ∷ before) rest a b e = nil_is_no_cons x (before ++ a_text C a ∷ a_text C b ∷ rest) e

  nil_normal : IsNormal {C = C} []
  nil_normal = record { none_empty = none_empty_in_nil; none_beside = none_beside_in_nil }

  -- ---- the normal form is in normal form

  node_leads : (h : Html C) (items : List (Html C)) → text_of h ≡ None → Leads h items
  node_leads h items none = record { not_empty = is_no_text h [] none; not_beside = λ rest a b e _. is_no_text h a none e }

  text_leads : (c : ℕ) (cs : List ℕ) (items : List (Html C)) → ((rest : List (Html C)) (b : List ℕ) → items ≡ a_text C b ∷ rest → ⊥) → Leads (a_text C (c ∷ cs)) items
  text_leads c cs items apart = record {
    not_empty = λ e. let s : c ∷ cs ≡ [] = same_text (c ∷ cs) [] e in cc;
    not_beside = λ rest a b _ e. apart rest b e;
  }

  joined_normal : (c : ℕ) (cs : List ℕ) (h : Html C) (own : Option (List ℕ)) (rest : List (Html C)) → text_of h ≡ own → IsNormal (h ∷ rest) → IsNormal (joined (c ∷ cs) h own rest)
  joined_normal c cs h None rest is n =
      cons_normal (a_text C (c ∷ cs)) (h ∷ rest) (text_leads c cs (h ∷ rest) (λ behind b e. is_no_text h b is (heads h (a_text C b) rest behind e))) n
  joined_normal c cs h (Some text) rest is n =
      cons_normal (a_text C ((c ∷ cs) ++ text)) rest
      (text_leads c (cs ++ text) rest (λ behind b e. n.none_beside [] behind text b (ap (λ x. x ∷ rest) (Text-from_text_of C h text is) ∙ ap (λ xs. a_text C text ∷ xs) e)))
      (rest_normal h rest n)

  with_text_normal : (text : List ℕ) (items : List (Html C)) → IsNormal items → IsNormal (with_text text items)
  with_text_normal [] items n = n
  with_text_normal (c ∷ cs) [] n = cons_normal (a_text C (c ∷ cs)) [] (text_leads c cs [] (λ rest b e. nil_is_no_cons (a_text C b) rest e)) n
  with_text_normal (c ∷ cs) (h ∷ rest) n = joined_normal c cs h (text_of h) rest refl n

  with_node_normal : (h : Html C) (own : Option (List ℕ)) (items : List (Html C)) → text_of h ≡ own → IsNormal items → IsNormal (with_node h own items)
  with_node_normal h None items is n = cons_normal h items (node_leads h items is) n
  with_node_normal h (Some text) items is n = with_text_normal text items n

  pub normal_is_normal : (items : List (Html C)) → IsNormal (normal items)
  normal_is_normal [] = subst (λ (xs : List (Html C)). IsNormal xs) (sym (normal-nil C)) nil_normal
  normal_is_normal (h ∷ rest) = subst (λ (xs : List (Html C)). IsNormal xs) (sym (normal-cons C h rest)) (with_node_normal h (text_of h) (normal rest) refl (normal_is_normal rest))

  -- ---- what is in normal form stays

  joined_stays : (c : ℕ) (cs : List ℕ) (h k : Html C) (own : Option (List ℕ)) (rest : List (Html C)) → h ≡ a_text C (c ∷ cs) → text_of k ≡ own → IsNormal (h ∷ k ∷ rest) → joined (c ∷ cs) k own rest ≡ h ∷ k ∷ rest
  joined_stays c cs h k None rest is next n = ap (λ x. x ∷ k ∷ rest) (sym is)
  joined_stays c cs h k (Some text) rest is next n =
      absurd (n.none_beside [] rest (c ∷ cs) text (ap (λ x. x ∷ k ∷ rest) is ∙ ap (λ x. a_text C (c ∷ cs) ∷ x ∷ rest) (Text-from_text_of C k text next)))

  with_text_stays : (text : List ℕ) (h : Html C) (rest : List (Html C)) → h ≡ a_text C text → IsNormal (h ∷ rest) → with_text text rest ≡ h ∷ rest
  with_text_stays [] h rest is n = absurd (n.none_empty [] rest (ap (λ x. x ∷ rest) is))
  with_text_stays (c ∷ cs) h [] is n = ap (λ x. x ∷ []) (sym is)
  with_text_stays (c ∷ cs) h (k ∷ rest) is n = joined_stays c cs h k (text_of k) rest is refl n

  with_node_stays : (h : Html C) (own : Option (List ℕ)) (rest : List (Html C)) → text_of h ≡ own → IsNormal (h ∷ rest) → with_node h own rest ≡ h ∷ rest
  with_node_stays h None rest is n = refl
  with_node_stays h (Some text) rest is n = with_text_stays text h rest (Text-from_text_of C h text is) n

  pub normal_stays : (items : List (Html C)) → IsNormal items → normal items ≡ items
  normal_stays [] n = normal-nil C
  normal_stays (h ∷ rest) n =
      normal-cons C h rest ∙ ap (with_node h (text_of h)) (normal_stays rest (rest_normal h rest n)) ∙ with_node_stays h (text_of h) rest refl n
