-- When no update is in flight every network goes by the stable routing, whatever the past was. Assumes nothing.
use Rattle.std.proofs.Common.{◌≡◌, ℕ, ◌<◌, None, sym, ap, ◌∙◌, ⊎_elim}
use Rattle.std.proofs.lemmas.Bool.{cases_Bool, cond-false}
use Rattle.model.specs.Export.{told, tells}
use Rattle.model.specs.World.{World, Sound}
use Rattle.model.specs.Local.{choice}
use Rattle.model.specs.Stable.{Routing, stable, Stable}
use Rattle.model.specs.Run.{State, links, Reach, Quiescent}
use Rattle.model.specs.Packets.{Lookup}
use Rattle.model.specs.Promise.{Settled}
use Rattle.model.specs.PromiseLaws.{Forgets, Settles}
use Rattle.convergence.proofs.Standing.{height, height_stands}
use Rattle.convergence.proofs.Decided.{lawful}
use Rattle.convergence.proofs.Routings.{exists, only_one}
use Rattle.convergence.proofs.Newest.{newest_quiet}
use Rattle.convergence.proofs.Steps.{run_kept}
use Rattle.convergence.proofs.Coherence.{run_coherent}

module _ (w : World) (find : Lookup) (sound : Sound w) (s : State) (run : Reach w find s) (quiet : Quiescent s) where
  -- what each network goes by
  abbrev gone_by : ℕ → Routing
  gone_by b i = choice w i (s.locals i) b

  pub received_is_advertised : (i j b : ℕ) → (s.locals i).received b j ≡ (s.locals j).advertised b i
  received_is_advertised i j b = sym (newest_quiet b (s.flight j i) ((s.locals i).received b j) (quiet j i)) ∙ (run_kept w find sound run).newest j i b

  pub advertised_is_told : (i k b : ℕ) → k < w.n → b < w.blocks → (s.locals i).advertised b k ≡ tells (w.rel i) (links s i) i k (gone_by b i)
  advertised_is_told i k b hk hb =
      let c = run_coherent w find run i in
      ⊎_elim
      (λ up. c.told b k hb hk up)
      (λ down. c.untold b k down ∙ sym (cond-false (links s i k) (told (w.rel i) i k (gone_by b i)) None down))
      (cases_Bool (links s i k))

  gone_by_stable : (b : ℕ) → b < w.blocks → Stable w (links s) b (gone_by b)
  gone_by_stable b hb i hi =
      (lawful w sound (height w sound) (height_stands w sound) b).all (links s i) i ((s.locals i).received b) (λ j. tells (w.rel j) (links s j) j i (gone_by b j)) hi
      (λ j hj. received_is_advertised i j b ∙ advertised_is_told j i b hi hb)

  chosen_is_stable : (i b : ℕ) → i < w.n → b < w.blocks → gone_by b i ≡ stable w (links s) b i
  chosen_is_stable i b hi hb = only_one w sound (links s) b (gone_by b) (stable w (links s) b) (gone_by_stable b hb) (exists w sound (links s) b) i hi

  pub settled : Settled w s
  settled =
      record {
        chosen = chosen_is_stable;
        advertised = λ i k b hi hk hb. advertised_is_told i k b hk hb ∙ ap (tells (w.rel i) (links s i) i k) (chosen_is_stable i b hi hb);
        received = λ i j b hi hj hb. received_is_advertised i j b ∙ advertised_is_told j i b hi hb ∙ ap (tells (w.rel j) (links s j) j i) (chosen_is_stable j b hj hb);
      }

pub settles : Settles
settles w find sound s run quiet = settled w find sound s run quiet

pub forgets : Forgets
forgets w find sound s t run other quiet hush same i j b hi hj hb =
    let a = settled w find sound s run quiet in
    let c = settled w find sound t other hush in (
      a.received i j b hi hj hb ∙ (λ x. tells (w.rel j) (λ k. same j k x) j i (stable w (λ n k. same n k x) b j)) ∙ sym (c.received i j b hi hj hb),
      a.advertised i j b hi hj hb ∙ (λ x. tells (w.rel i) (λ k. same i k x) i j (stable w (λ n k. same n k x) b i)) ∙ sym (c.advertised i j b hi hj hb),
    )
