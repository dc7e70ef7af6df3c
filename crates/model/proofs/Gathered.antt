-- Lists one after the other, f 0 ++ .. ++ f (k - 1). Assumes nothing.
use Rattle.std.proofs.Common.{◌≡◌, ℕ, zero, suc, ◌+◌, ◌*◌, ◌<◌, ◌≤◌, List, [], ◌++◌, length, get_or, sym, refl, ap, ◌∙◌, subst, ⊎_elim, append_assoc, append-nil, mul-suc, add-one, arith, length-append}
use Rattle.std.specs.List.{flat_map, AllByRecursion}
use Rattle.std.proofs.lemmas.List.{get_or_append_left, get_or-append-add}
use Rattle.std.proofs.ByRecursion.{All-append}
use Rattle.std.proofs.lemmas.Bool.{cases_lt, cases_eq}
use Rattle.std.proofs.lemmas.Grind.{flat_map-append}
use Rattle.model.specs.Lists.{gather}

module _ {X : Type 0} where
  pub gather_more : (f : ℕ → List X) (k : ℕ) → gather f (k + 1) ≡ gather f k ++ f k
  gather_more f k = let e : k + 1 ≡ suc k = omega arith in ap (gather f) e

  pub gather_same : (f g : ℕ → List X) (m : ℕ) → ((i : ℕ) → i < m → f i ≡ g i) → gather f m ≡ gather g m
  gather_same f g zero h = refl
  gather_same f g (suc m) h = λ x. gather_same f g m (λ i l. h i (omega arith)) x ++ h m (omega arith) x

  pub gather_none : (f : ℕ → List X) (m : ℕ) → ((k : ℕ) → k < m → f k ≡ []) → gather f m ≡ []
  gather_none f zero h = refl
  gather_none f (suc m) h = λ x. gather_none f m (λ k l. h k (omega arith)) x ++ h m (omega arith) x

  -- where only one list has something in it
  pub gather_one : (f : ℕ → List X) (k m : ℕ) → k < m → ((j : ℕ) → (j ≡ k → ⊥) → f j ≡ []) → gather f m ≡ f k
  gather_one f k zero l h = absurd (omega arith)
  gather_one f k (suc m) l h =
      ⊎_elim
      (λ e. (λ x. gather_none f m (λ j below. h j (λ same. omega arith)) x ++ f m) ∙ ap f (sym e))
      (λ ne. (λ x. gather_one f k m (omega arith) h x ++ h m (λ e. ne (sym e)) x) ∙ append-nil (f k))
      (cases_eq k m)

  pub gather_blank : (f : ℕ → List X) (k m : ℕ) → k ≤ m → ((i : ℕ) → k ≤ i → f i ≡ []) → gather f m ≡ gather f k
  gather_blank f k zero l h = let e : k ≡ 0 = omega arith in ap (gather f) (sym e)
  gather_blank f k (suc m) l h =
      ⊎_elim
      (λ below. (λ x. gather_blank f k m (omega arith) h x ++ h m (omega arith) x) ∙ append-nil (gather f k))
      (λ above. let e : k ≡ suc m = omega arith in ap (gather f) (sym e))
      (cases_lt k (suc m))

  -- what is added at one place, with nothing behind it, comes at the end
  pub gather_add : (f g : ℕ → List X) (a m : ℕ) (t : List X) → a < m → ((i : ℕ) → (i ≡ a → ⊥) → g i ≡ f i) → g a ≡ f a ++ t → ((i : ℕ) → a < i → f i ≡ []) → gather g m ≡ gather f m ++ t
  gather_add f g a m t l same here blank =
      gather_blank g (suc a) m (omega arith) (λ i h. same i (omega arith) ∙ blank i (omega arith)) ∙
      (λ x. gather_same g f a (λ i h. same i (omega arith)) x ++ here x) ∙
      sym (append_assoc (gather f a) (f a) t) ∙
      ap (λ l. l ++ t) (sym (gather_blank f (suc a) m (omega arith) (λ i h. blank i (omega arith))))

  pub gather_all : (P : X → Type 0) (f : ℕ → List X) (m : ℕ) → ((i : ℕ) → i < m → AllByRecursion P (f i)) → AllByRecursion P (gather f m)
  gather_all P f zero h = tt
  gather_all P f (suc m) h = All-append P (gather f m) (f m) (gather_all P f m (λ i l. h i (omega arith))) (h m (omega arith))

  -- an element of one of the lists stands somewhere in the whole
  pub gather_at : (f : ℕ → List X) (m i q : ℕ) (d : X) → i < m → q < length (f i) → (k : ℕ) × (k < length (gather f m)) × (get_or (gather f m) k d ≡ get_or (f i) q d)
  gather_at f zero i q d l h = absurd (omega arith)
  gather_at f (suc m) i q d l h =
      ⊎_elim
      (λ below. let r = gather_at f m i q d below h in (r.0, omega (arith, length-append (gather f m) (f m), r.1), get_or_append_left (gather f m) (f m) d r.0 r.1 ∙ r.2))
      (λ above.
      let e : i ≡ m = omega arith in
      let long : q < length (f m) = subst (λ z. q < length (f z)) e h in
      (length (gather f m) + q, omega (arith, length-append (gather f m) (f m)), get_or-append-add (gather f m) (f m) q d ∙ ap (λ z. get_or (f z) q d) (sym e)))
      (cases_lt i m)

-- a turn that appends what one list says
pub gather_joined : {X A : Type 0} (f : X → List A) (g : ℕ → List X) (k : ℕ) (start now next : List A) → now ≡ start ++ flat_map f (gather g k) → next ≡ now ++ flat_map f (g k) → next ≡ start ++ flat_map f (gather g (k + 1))
gather_joined f g k start now next h e =
    e ∙ ap (λ l. l ++ flat_map f (g k)) h ∙ append_assoc start (flat_map f (gather g k)) (flat_map f (g k)) ∙ ap (λ l. start ++ l) (sym (flat_map-append f (gather g k) (g k)) ∙ ap (λ m. flat_map f (gather g m)) (sym (add-one k)))

pub length_gather : {X : Type 0} (f : ℕ → List X) (c m : ℕ) → ((i : ℕ) → length (f i) ≤ c) → length (gather f m) ≤ c * m
length_gather f c zero h = omega arith
length_gather f c (suc m) h = omega (arith, mul-suc c m, length-append (gather f m) (f m), length_gather f c m h, h m)
