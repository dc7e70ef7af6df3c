-- Each turn reads one line.
use Rattle.std.proofs.Common.{◌≡◌, ◌<◌, length, Ok, Err, Option, Result, sym, refl, ap, ◌∙◌, subst, arith}
use Rattle.std.proofs.iter.Next.{says_at}
use Rattle.std.proofs.lemmas.Result.{err_from_is_err_and}
use Rattle.std.proofs.lemmas.Bool.{eqb-true, eqb-false}
use Rattle.std.specs.Fn.{FnReturnsAt}
use Rattle.script.specs.declared.cause.Cause.{Cause}
use Rattle.script.specs.Next.{Falls, Reader, Reads, ahead_by, left_of, line_of, reached}
use Rattle.script.proofs.Steps.{ahead_read, ahead_none, beyond_shorter}
use Rattle.script.proofs.script.Script.next_by.Given.{Over}
use Rattle.script.proofs.script.Script.next_by.Goals as goal
use Rattle.script.proofs.script.Script.next_by.Goals.{After-read}

-- there is a line to read
some : (g : Over) (c : After-read g) → 0 < length (left_of c.loop-self.self)
some g c = omega (arith, eqb-false (length (left_of c.loop-self.self)) 0 (sym c.loop-self-test.ensures))

-- what comes next, by what the line says
next : (g : Over) (c : After-read g) (r : Result (Option _) Cause) → c.read.result ≡ r → (reads : Reader _) → Reads (FnReturnsAt g.F.Fn c.args.read) reads → ahead_by reads (line_of c.args.self.now) (left_of c.args.self.now) ≡ reached r (line_of c.take_line-line.new.self) (left_of c.take_line-line.new.self) (ahead_by reads (line_of c.take_line-line.new.self) (left_of c.take_line-line.new.self))
next g c r is reads h =
    let line = c.take_line-line.ensures in
    let said : c.read.result ≡ reads c.take_line-line.result.now = h _ _ (says_at g.F.Fn c.read.ensures refl) in
    sym (c.loop-self.invariant.0 reads h) ∙ ahead_read reads (line_of c.loop-self.self) _ (left_of c.loop-self.self) _ _ _ (some g c) line.text line.left line.line (sym is ∙ said)

less : (g : Over) (c : After-read g) → length (left_of c.take_line-line.new.self) < length (left_of c.loop-self.self)
less g c = omega (arith, ap length c.take_line-line.ensures.left, beyond_shorter (left_of c.loop-self.self) (some g c))

pub loop-self-smaller : goal.loop-self-smaller
loop-self-smaller g c = less g (goal.at.loop-self-smaller g c).After-read

pub loop-self-preserved : goal.loop-self-preserved
loop-self-preserved g c =
    let a = (goal.at.loop-self-preserved g c).After-read in
    (λ reads h. sym (next g a _ (c.in_ok-found.was ∙ ap (λ o. Ok o) c.in_default.is) reads h), omega (arith, less g a, c.loop-self.invariant.1))

pub returns-in-Some : goal.returns-in-Some
returns-in-Some g c =
    let a = (goal.at.returns-in-Some g c).After-read in
    record {
      ahead = next g a _ (c.in_ok-found.was ∙ ap (λ o. Ok o) c.in-Some.is);
      falls = omega (arith, less g a, c.loop-self.invariant.1);
    }

pub returns-in_err-found : goal.returns-in_err-found
returns-in_err-found g c =
    let a = (goal.at.returns-in_err-found g c).After-read in
    let p = err_from_is_err_and c.from_residual.result c.from_residual.ensures.1 in
    let same = p.1 ∙ ap (λ e. Err e) p.2 in
    let lower : length (left_of c.take_line-line.new.self) < length (left_of c.args.self.now) = omega (arith, less g a, c.loop-self.invariant.1) in
    record {
      ahead = λ reads h. next g a _ c.in_err-found.was reads h ∙ ap (λ r. record { answer = r; line = line_of c.take_line-line.new.self; left = left_of c.take_line-line.new.self }) (sym same);
      falls = subst (λ r. Falls r (length (left_of c.args.self.now)) (length (left_of c.take_line-line.new.self))) (sym same) lower;
    }

pub returns : goal.returns
returns g c =
    let s = c.loop-self.self in
    let none = eqb-true (length (left_of s)) 0 (sym c.loop-self-test.ensures) in
    record {
      ahead = λ reads h. sym (c.loop-self.invariant.0 reads h) ∙ ahead_none reads (line_of s) (left_of s) none;
      falls = none;
    }
