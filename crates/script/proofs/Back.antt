-- What is written reads back. Assumes nothing.
use Rattle.std.proofs.Common.{◌≡◌, ℕ, ◌+◌, ◌%◌, ◌^◌, ◌<◌, Bool, true, false, cond, not, ◌&&◌, leb, List, [], ◌∷◌, ◌++◌, length, Some, Ok, codes, decimal, sym, refl, ap, ◌∙◌, append-nil, arith, length-append}
use Rattle.std.proofs.lemmas.Fmt.{decimal_by_steps, decimal_nonempty}
use Rattle.std.proofs.lemmas.Bool.{and_parts, and_from, lt-leb}
use Rattle.std.proofs.lemmas.Bool.Decides.{nat_tests}
use Rattle.text.specs.declared.address.Address.{Address}
use Rattle.text.specs.Dotted.{byte0, byte1, byte2, byte3, dotted}
use Rattle.model.specs.Checks.{first_fault}
use Rattle.script.specs.declared.cause.Cause.TheVariants.{BadByte}
use Rattle.script.specs.declared.command.Command.{Command}
use Rattle.script.specs.declared.command.Command.TheVariants.{Turn, Hear, Send, Show, Rest}
use Rattle.script.specs.declared.command.Limits.{Limits}
use Rattle.script.specs.Addresses.{address_of}
use Rattle.script.specs.Digits.{value}
use Rattle.script.specs.Faults.{plain, is_plain, words_checks}
use Rattle.script.specs.Laws.{ReadsBack, ScriptReadsBack}
use Rattle.script.specs.Meaning.{judged, meaning, read_line, read_words}
use Rattle.script.specs.Parts.{Feedless, before, content, ended, is_blank, is_feed, is_mark, lines, opened, words}
use Rattle.script.specs.Whole.{entries_in, noted}
use Rattle.script.specs.Written.{Within, all_written, said, spaced, written}
use Rattle.script.proofs.Cuts.{before_on, words_blank, words_last, words_on}
use Rattle.script.proofs.Entries.{line_by_line}
use Rattle.script.proofs.Addressed.{address_back}
use Rattle.script.proofs.Values.{value_decimal}

-- a byte that is neither blank, nor a feed, nor a mark
abbrev clear : ℕ → Bool
clear b = leb 36 b && leb b 126

abbrev all_clear : List ℕ → Bool
all_clear [] = true
all_clear (b ∷ bs) = clear b && all_clear bs

clear_append : (xs ys : List ℕ) → all_clear xs ≡ true → all_clear ys ≡ true → all_clear (xs ++ ys) ≡ true
clear_append [] ys p q = q
clear_append (b ∷ bs) ys p q = let h = and_parts (clear b) (all_clear bs) p in and_from (clear b) _ h.0 (clear_append bs ys h.1 q)

clear_digit : (d : ℕ) → d < 10 → all_clear ((48 + d) ∷ []) ≡ true
clear_digit d h = grind (arith, nat_tests)

clear_decimal : (n : ℕ) → n < 2 ^ 64 → all_clear (decimal n) ≡ true
clear_decimal = decimal_by_steps (λ n ds. all_clear ds ≡ true) clear_digit (λ n ds h e. clear_append ds ((48 + n % 10) ∷ []) e (clear_digit (n % 10) (omega arith)))

not_blank : (b : ℕ) → clear b ≡ true → is_blank b ≡ false
not_blank b h = grind (arith, nat_tests)

before_clear : (p : ℕ → Bool) → ((b : ℕ) → clear b ≡ true → p b ≡ false) → (w rest : List ℕ) → all_clear w ≡ true → before p (w ++ rest) ≡ w ++ before p rest
before_clear p no_stop [] rest h = refl
before_clear p no_stop (b ∷ bs) rest h =
    let e = and_parts (clear b) (all_clear bs) h in
    before_on p b (bs ++ rest) (no_stop b e.0) ∙ ap (λ l. b ∷ l) (before_clear p no_stop bs rest e.1)

plain_clear : (w rest : List ℕ) → all_clear w ≡ true → plain (w ++ rest) ≡ plain rest
plain_clear [] rest h = refl
plain_clear (b ∷ bs) rest h =
    let e = and_parts (clear b) (all_clear bs) h in
    let one : is_plain b ≡ true = grind (arith, nat_tests, e.0) in
    ap (λ t. t && plain (bs ++ rest)) one ∙ plain_clear bs rest e.1

words_clear : (b : ℕ) (bs rest : List ℕ) → all_clear (b ∷ bs) ≡ true → ended rest ≡ true → words (b ∷ bs ++ rest) ≡ (b ∷ bs) ∷ words rest
words_clear b [] rest h e = words_last b rest (not_blank b (and_parts (clear b) true h).0) e
words_clear b (d ∷ ds) rest h e =
    let one = and_parts (clear b) (all_clear (d ∷ ds)) h in
    let two = and_parts (clear d) (all_clear ds) one.1 in
    words_on b (d ∷ ds ++ rest) (not_blank b one.0) (not_blank d two.0) ∙ ap (opened b) (words_clear d ds rest one.1 e)

-- a word as it is written
abbrev Word : List ℕ → Type 0
Word w = (all_clear w ≡ true) × (0 < length w)

first_clear : (w rest : List ℕ) → Word w → ended rest ≡ true → words (w ++ rest) ≡ w ∷ words rest
first_clear [] rest h e = absurd (omega (arith, h.1))
first_clear (b ∷ bs) rest h e = words_clear b bs rest h.0 e

abbrev AllWords : List (List ℕ) → Type 0
AllWords [] = Unit {0}
AllWords (w ∷ ws) = Word w × AllWords ws

-- a line with neither comment nor bad byte, of these words
record Holds (line : List ℕ) (ws : List (List ℕ)) : Type 0 where
  bare : content line ≡ line
  good : plain line ≡ true
  cut : words line ≡ ws
  feedless : Feedless line

no_mark : (b : ℕ) → clear b ≡ true → is_mark b ≡ false
no_mark b h = grind (arith, nat_tests)

no_feed : (b : ℕ) → clear b ≡ true → is_feed b ≡ false
no_feed b h = grind (arith, nat_tests)

holds_last : (w : List ℕ) → Word w → Holds w (w ∷ [])
unfolding before words
holds_last w h =
    let whole = append-nil w in
    record {
      bare = ap (before is_mark) (sym whole) ∙ before_clear is_mark no_mark w [] h.0 ∙ whole;
      good = ap plain (sym whole) ∙ plain_clear w [] h.0;
      cut = ap words (sym whole) ∙ first_clear w [] h refl;
      feedless = ap (before is_feed) (sym whole) ∙ before_clear is_feed no_feed w [] h.0 ∙ whole;
    }

holds_more : (w : List ℕ) (rest : List ℕ) (ws : List (List ℕ)) → Word w → Holds rest ws → Holds (w ++ (32 ∷ rest)) (w ∷ ws)
holds_more w rest ws h on = record {
  bare = before_clear is_mark no_mark w (32 ∷ rest) h.0 ∙ ap (λ l. w ++ l) (before_on is_mark 32 rest refl ∙ ap (λ l. 32 ∷ l) on.bare);
  good = plain_clear w (32 ∷ rest) h.0 ∙ on.good;
  cut = first_clear w (32 ∷ rest) h refl ∙ ap (λ l. w ∷ l) (words_blank 32 rest refl ∙ on.cut);
  feedless = before_clear is_feed no_feed w (32 ∷ rest) h.0 ∙ ap (λ l. w ++ l) (before_on is_feed 32 rest refl ∙ ap (λ l. 32 ∷ l) on.feedless);
}

spaced_holds : (w : List ℕ) (ws : List (List ℕ)) → Word w → AllWords ws → Holds (spaced (w ∷ ws)) (w ∷ ws)
spaced_holds w [] h hs = holds_last w h
spaced_holds w (v ∷ vs) h hs = holds_more w (spaced (v ∷ vs)) (v ∷ vs) h (spaced_holds v vs hs.0 hs.1)

held_reads : (limits : Limits) (line : List ℕ) (ws : List (List ℕ)) → Holds line ws → read_line limits line ≡ read_words limits ws
held_reads limits line ws h =
    ap (λ l. judged (first_fault ((BadByte, not (plain l)) ∷ words_checks limits (words l))) (meaning (words l))) h.bare ∙
    (λ i. judged (first_fault ((BadByte, not (h.good i)) ∷ words_checks limits (h.cut i))) (meaning (h.cut i)))

module _ (limits : Limits) where
  turn_reads : (i j : ℕ) (w v : List ℕ) (up : Bool) → value w ≡ Some i → value v ≡ Some j → leb limits.networks i ≡ false → leb limits.networks j ≡ false → read_words limits (codes "turn" ∷ w ∷ v ∷ cond up (codes "up") (codes "down") ∷ []) ≡ Ok (Some (Turn i j up))
  turn_reads i j w v true e f p q = rw (e, f, p, q) refl
  turn_reads i j w v false e f p q = rw (e, f, p, q) refl

  hear_reads : (i j : ℕ) (w v : List ℕ) → value w ≡ Some i → value v ≡ Some j → leb limits.networks i ≡ false → leb limits.networks j ≡ false → read_words limits (codes "hear" ∷ w ∷ v ∷ []) ≡ Ok (Some (Hear i j))
  hear_reads i j w v e f p q = rw (e, f, p, q) refl

  send_reads : (i : ℕ) (a : Address) (w v : List ℕ) → value w ≡ Some i → address_of v ≡ Some a → leb limits.networks i ≡ false → read_words limits (codes "send" ∷ w ∷ v ∷ []) ≡ Ok (Some (Send i a))
  send_reads i a w v e f p = rw (e, f, p) refl

  show_reads : (i : ℕ) (w : List ℕ) → value w ≡ Some i → leb limits.blocks i ≡ false → read_words limits (codes "show" ∷ w ∷ []) ≡ Ok (Some (Show i))
  show_reads i w e p = rw (e, p) refl

number_word : (n : ℕ) → n < 2 ^ 64 → Word (decimal n)
number_word n h = (clear_decimal n h, decimal_nonempty n h)

-- a number, a dot and what follows it
clear_dot : (n : ℕ) (rest : List ℕ) → n < 256 → all_clear rest ≡ true → all_clear (decimal n ++ (46 ∷ rest)) ≡ true
clear_dot n rest h e = clear_append (decimal n) (46 ∷ rest) (clear_decimal n (omega arith)) e

dotted_word : (a : ℕ) → Word (dotted a)
dotted_word a =
    let last : all_clear (decimal (byte3 a)) ≡ true = clear_decimal (byte3 a) (omega arith) in
    let two : all_clear (decimal (byte2 a) ++ (46 ∷ decimal (byte3 a))) ≡ true = clear_dot (byte2 a) _ (omega arith) last in
    let three : all_clear (decimal (byte1 a) ++ (46 ∷ (decimal (byte2 a) ++ (46 ∷ decimal (byte3 a))))) ≡ true = clear_dot (byte1 a) _ (omega arith) two in
    (clear_dot (byte0 a) _ (omega arith) three, omega (arith, length-append (decimal (byte0 a)) (46 ∷ (decimal (byte1 a) ++ (46 ∷ (decimal (byte2 a) ++ (46 ∷ decimal (byte3 a))))))))

up_word : (up : Bool) → Word (cond up (codes "up") (codes "down"))
up_word true = (refl, omega arith)
up_word false = (refl, omega arith)

written_holds : (limits : Limits) (c : Command) → limits.networks < 256 → limits.blocks < 65536 → Within limits c → Holds (written c) (said c)
written_holds limits (Turn i j up) p q h = spaced_holds _ _ (refl, omega arith) (number_word i (omega (arith, h.0)), (number_word j (omega (arith, h.1)), (up_word up, tt)))
written_holds limits (Hear i j) p q h = spaced_holds _ _ (refl, omega arith) (number_word i (omega (arith, h.0)), (number_word j (omega (arith, h.1)), tt))
written_holds limits (Send i a) p q h = spaced_holds _ _ (refl, omega arith) (number_word i (omega (arith, h.0)), (dotted_word a.0, tt))
written_holds limits (Show k) p q h = spaced_holds _ _ (refl, omega arith) (number_word k (omega (arith, h)), tt)
written_holds limits Rest p q h = spaced_holds _ _ (refl, omega arith) tt

said_reads : (limits : Limits) (c : Command) → limits.networks < 256 → limits.blocks < 65536 → Within limits c → read_words limits (said c) ≡ Ok (Some c)
said_reads limits (Turn i j up) p q h = turn_reads limits i j _ _ up (value_decimal i (omega (arith, h.0))) (value_decimal j (omega (arith, h.1))) (lt-leb limits.networks i h.0) (lt-leb limits.networks j h.1)
said_reads limits (Hear i j) p q h = hear_reads limits i j _ _ (value_decimal i (omega (arith, h.0))) (value_decimal j (omega (arith, h.1))) (lt-leb limits.networks i h.0) (lt-leb limits.networks j h.1)
said_reads limits (Send i a) p q h = send_reads limits i a _ (dotted a.0) (value_decimal i (omega (arith, h.0))) (address_back a h.1) (lt-leb limits.networks i h.0)
said_reads limits (Show k) p q h = show_reads limits k _ (value_decimal k (omega (arith, h))) (lt-leb limits.blocks k h)
said_reads limits Rest p q h = refl

pub reads_back : ReadsBack
reads_back limits c p q h = held_reads limits (written c) (said c) (written_holds limits c p q h) ∙ said_reads limits c p q h

pub script_reads_back : ScriptReadsBack
unfolding lines entries_in
script_reads_back limits k [] p q h = refl
script_reads_back limits k (c ∷ cs) p q h =
    line_by_line limits k (written c) (all_written cs) (written_holds limits c p q h.0).feedless ∙
    (λ i. noted (reads_back limits c p q h.0 i) (k + 1) (script_reads_back limits (k + 1) cs p q h.1 i))
