-- A run of a generated chain goes on by one round.
use Rattle.std.proofs.Common.{◌≡◌, ℕ, zero, suc, ◌+◌, ◌*◌, ◌%◌, ◌<◌, ◌≤◌, Bool, true, false, List, [], ◌∷◌, ◌++◌, length, Err, refl, sym, ap, subst, ◌∙◌, append_assoc, length-append, arith}
use Rattle.std.specs.Prelude.{IsTrue, decimal}
use Rattle.std.proofs.lemmas.Fmt.{IsAscii-decimal}
use Rattle.disk_model.specs.DiskSeen.{DiskSeen}
use Rattle.feed_frames.specs.Replies.{Reply}
use Rattle.dns_message.specs.Header.{header_text, word_text}
use Rattle.dns_message.specs.Query.{question_text}
use Rattle.dns_message.specs.Query.Reading.{Asks}
use Rattle.dns_message.specs.Reading.{reading_of}
use Rattle.dns_message.proofs.HeaderLaws.{AreBytes}
use Rattle.dns_message.proofs.QueryLaws.{asks_query, reading_is}
use Rattle.kept_answers.specs.Answering.{Answering, last_count, none_kept}
use Rattle.chain_commands.specs.Event.{Connect, Datagram, Event, Do}
use Rattle.chain_commands.specs.RunState.{RunState}
use Rattle.bridge_core.specs.Leaving.{accepted_saves}
use Rattle.generated_chain.specs.Blocks.{number_at, run_base, run_host, tip_at}
use Rattle.generated_chain.specs.Events as made
use Rattle.generated_chain.specs.Events.{events_of, generated_events, joined_again, round_at, saved}
use Rattle.generated_chain.specs.Texts.{label_text, query_text, question_for}
use Rattle.generated_chain.specs.declared.run.Round.{Round}
use Rattle.generated_chain.proofs.Lengths.{label_short}
use Rattle.generated_chain.proofs.Queries.{asks}
use Rattle.name_store.specs.Stands.{begun_on}
use Rattle.name_store.specs.Stored.{IsOn}
use Rattle.bridge_core.specs.Bridged.{Bridged}
use Rattle.bridge_core.specs.Opening.{HasOpened}
use Rattle.bridge_core.specs.Reached.{Beginning, Begins, Passes}
use Rattle.bridge_core.specs.Runs.{none_yet}
use Rattle.bridge_core.proofs.AnsweringLemmas.{asked_answers}
use Rattle.bridge_commands.specs.Playing.{AnswersEach, AreTaken, AsksTwice, PlaysAll, PlaysOn, PlaysRound, StopsIn, answers_in, counted_if, is_answered, requests_of, status_of_stop}
use Rattle.bridge_commands.specs.SelfTest.{BeginsAt, HasPlayed, IsCaused, Plays, StopsWith, no_memory, refused}
use Rattle.bridge_commands.specs.declared.course.Course.{Course}
use Rattle.bridge_commands.specs.declared.playing.Stop.{Stop}
use Rattle.bridge_commands.specs.declared.playing.Stop.TheVariants.{Refused, NoMemory}
use Rattle.bridge_commands.specs.declared.words.Trial.{Trial}
use Rattle.bridge_commands.proofs.CauseLemmas.{refused_cause}
use Rattle.bridge_commands.proofs.HitLemmas.{Bounds, IsPlain, asked_twice}
use Rattle.bridge_commands.proofs.PlayingLemmas.{answers_then, as_many, each_then, leads_all, passes_each, saves_then, stops_before, taken_then}
use Rattle.bridge_commands.proofs.RequestLemmas.{are_requests, behind_requests, few_requests, fresh_behind, no_answers, saves_of, saves_taken}

-- ---- the question of a round

bytes_then : (front rest : List ℕ) → AreBytes front → AreBytes rest → AreBytes (front ++ rest)
bytes_then [] rest f r i = r i
bytes_then (b ∷ front) rest f r zero = f 0
bytes_then (b ∷ front) rest f r (suc i) = bytes_then front rest (λ j. f (suc j)) r i

byte_then : (b : ℕ) (rest : List ℕ) → b < 256 → AreBytes rest → AreBytes (b ∷ rest)
byte_then b rest low r zero = low
byte_then b rest low r (suc i) = r i

word_bytes : (n : ℕ) → AreBytes (word_text n)
word_bytes n zero = omega arith
word_bytes n (suc zero) = omega arith
word_bytes n (suc (suc i)) = omega arith

no_bytes : AreBytes []
no_bytes i = omega arith

label_bytes : (number : ℕ) → number < 64 → AreBytes (label_text number)
label_bytes number low = byte_then 110 (decimal number) (omega arith) (λ i. omega (arith, IsAscii-decimal number (omega (arith, low)) i))

words_then : (n : ℕ) (rest : List ℕ) → AreBytes rest → AreBytes (word_text n ++ rest)
words_then n rest are = bytes_then (word_text n) rest (word_bytes n) are

-- the label `bit` and the root
bit_bytes : AreBytes (3 ∷ (98 ∷ (105 ∷ (116 ∷ (0 ∷ [])))))
bit_bytes = byte_then 3 (98 ∷ (105 ∷ (116 ∷ (0 ∷ [])))) (omega arith) (byte_then 98 (105 ∷ (116 ∷ (0 ∷ []))) (omega arith)
    (byte_then 105 (116 ∷ (0 ∷ [])) (omega arith) (byte_then 116 (0 ∷ []) (omega arith) (byte_then 0 [] (omega arith) no_bytes))))

name_bytes : (id number : ℕ) → number < 64 → AreBytes (question_for id number).name
name_bytes id number low =
    let label : List ℕ = label_text number in
    let bit : List ℕ = 3 ∷ (98 ∷ (105 ∷ (116 ∷ (0 ∷ [])))) in
    byte_then (length label) (label ++ bit) (omega (arith, label_short number (omega (arith, low)))) (bytes_then label bit (label_bytes number low) bit_bytes)

query_bytes : (height number : ℕ) → number < 64 → AreBytes (query_text height number)
query_bytes height number low =
    let id = height % 65536 in
    let question = bytes_then (question_for id number).name (word_text 1 ++ word_text 1) (name_bytes id number low) (words_then 1 (word_text 1) (word_bytes 1)) in
    let counts = words_then 1 (word_text 0 ++ (word_text 0 ++ word_text 0)) (words_then 0 (word_text 0 ++ word_text 0) (words_then 0 (word_text 0) (word_bytes 0))) in
    let header = header_text (record { id = id; flags = 0x0100; questions = 1; answers = 0; authorities = 0; additionals = 0 }) in
    bytes_then header (question_text (question_for id number)) (words_then id (word_text 0x0100 ++ (word_text 1 ++ (word_text 0 ++ (word_text 0 ++ word_text 0)))) (words_then 0x0100 (word_text 1 ++ (word_text 0 ++ (word_text 0 ++ word_text 0))) counts)) question

pub query_plain : (height number : ℕ) → number < 64 → IsPlain (question_for (height % 65536) number)
query_plain height number low =
    let is = asks_query (query_text height number) (question_for (height % 65536) number) (query_bytes height number low) (sym (reading_is (query_text height number) (Asks (question_for (height % 65536) number)) (query_bytes height number low) (asks height number low))) in
    record { in_class = refl; no_opt = refl; name = is.0.question.asks.name; id = omega arith }

pub query_reads : (height number : ℕ) → number < 64 → reading_of (query_text height number) ≡ Asks (question_for (height % 65536) number)
query_reads height number low = reading_is (query_text height number) (Asks (question_for (height % 65536) number)) (query_bytes height number low) (asks height number low)

-- ---- the events of a round

pub events_split : (round : Round) → requests_of round ++ made.asked_twice round.query ≡ events_of round
events_split round =
    ap (λ (es : List Event). Do (Connect round.block) ∷ es) (append_assoc (joined_again round.reconnects round.block round.hash.0) (saved round.saves) (made.asked_twice round.query))

counted_add : (is_one : Bool) (count : ℕ) → counted_if is_one count ≡ count + counted_if is_one 0
counted_add true count = omega arith
counted_add false count = omega arith

counted_most : (is_one : Bool) (count : ℕ) → counted_if is_one count ≤ suc count
counted_most true count = omega arith
counted_most false count = omega arith

module _ {D : Type 0} (tells : Bool) (seen : D → DiskSeen) where
  -- a message that is asked twice leaves the disk alone
  abbrev pub asks_each : (old new : Bridged) (disk : D) (message : List ℕ) (answers : ℕ) → (IsTrue tells → IsOn old.store (seen disk).moments.now)
      → AsksTwice old message new answers → PlaysAll tells seen (old, disk) (made.asked_twice message) (new, disk)
  asks_each old new disk message answers on a =
      let one = asked_answers tells seen disk old a.mid a.first Datagram message on a.once in
      let two = asked_answers tells seen disk a.mid new a.second Datagram message one.leaves.still_on a.again in
      record {
        replies = a.first ∷ a.second ∷ [];
        each = ((a.mid, disk), one, ((new, disk), two, refl));
        taken = (a.first_taken, (a.second_taken, tt));
        still_on = two.leaves.still_on;
      }

  -- what a round adds at most, and where the bridge is behind it
  module _ (old new : Course) (before after : D) (round : Round) (p : PlaysOn tells seen old before round new after) where
    pub few_answers : new.answers ≤ old.answers + 2
    few_answers = omega (arith, p.answers_are, p.asks.answers_are, counted_most (is_answered p.asks.first) (counted_if (is_answered p.asks.second) 0), counted_most (is_answered p.asks.second) 0)

    pub few_saves : new.saves ≤ old.saves + 1
    few_saves = omega (arith, p.saves_are, counted_most round.saves old.saves)

    pub still_there : IsTrue tells → IsOn new.bridge.store (seen after).moments.now
    still_there = (asks_each p.mid new.bridge after round.query p.answers p.requests.still_on p.asks).still_on

  -- what is so behind so many rounds
  pub record SoFar (start : Beginning D) (seed rounds : ℕ) (course : Course) (disk : D) : Type 0 where
    pub replies : List Reply
    pub passes : Passes tells seen start (generated_events rounds seed) replies course.bridge disk
    pub as_many : length (generated_events rounds seed) ≡ length replies
    pub taken : AreTaken (generated_events rounds seed) replies
    pub answers : course.answers ≡ answers_in (generated_events rounds seed) replies
    pub saves : course.saves ≡ accepted_saves (generated_events rounds seed) replies
    pub bounds : Bounds rounds course.bridge.answers.cache
    pub counted : course.bridge.answers.accepted ≤ 4 * rounds

  module _ (start : Beginning D) (run : RunState) (o : HasOpened tells start.before (seen start.opened) start.bridge) (b : Begins tells start run) where
    -- ---- one round more

    module _ (seed rounds : ℕ) (low : rounds < 10000) (old new : Course) (before after : D) (so : SoFar start seed rounds old before)
        (p : PlaysOn tells seen old before (round_at seed rounds) new after) where
      abbrev round : Round
      round = round_at seed rounds

      abbrev asked : PlaysAll tells seen (p.mid, after) (made.asked_twice round.query) (new.bridge, after)
      asked = asks_each p.mid new.bridge after round.query p.answers p.requests.still_on p.asks

      abbrev replies : List Reply
      replies = p.requests.replies ++ asked.replies

      many : length (requests_of round) ≡ length p.requests.replies
      many = as_many tells seen (old.bridge, before) (p.mid, after) (requests_of round) p.requests.replies p.requests.each

      each : AnswersEach tells seen (old.bridge, before) (events_of round) replies (new.bridge, after)
      each = subst (λ (es : List Event). AnswersEach tells seen (old.bridge, before) es replies (new.bridge, after)) (events_split round)
          (each_then tells seen (old.bridge, before) (p.mid, after) (new.bridge, after) (requests_of round) (made.asked_twice round.query) p.requests.replies asked.replies p.requests.each asked.each)

      taken : AreTaken (events_of round) replies
      taken = subst (λ (es : List Event). AreTaken es replies) (events_split round)
          (taken_then (requests_of round) (made.asked_twice round.query) p.requests.replies asked.replies many p.requests.taken asked.taken)

      answers : answers_in (events_of round) replies ≡ p.answers
      answers =
          let sum = sym (ap (λ (es : List Event). answers_in es replies) (events_split round)) ∙ answers_then (requests_of round) (made.asked_twice round.query) p.requests.replies asked.replies many in
          let last : answers_in (made.asked_twice round.query) asked.replies ≡ p.answers = sym p.asks.answers_are in
          omega (arith, sum, no_answers (requests_of round) p.requests.replies (are_requests round), last)

      saves : accepted_saves (events_of round) replies ≡ counted_if round.saves 0
      saves =
          let sum = sym (ap (λ (es : List Event). accepted_saves es replies) (events_split round)) ∙ saves_then (requests_of round) (made.asked_twice round.query) p.requests.replies asked.replies many in
          let last : accepted_saves (made.asked_twice round.query) asked.replies ≡ 0 = refl in
          omega (arith, sum, last, saves_taken (requests_of round) p.requests.replies many p.requests.taken, saves_of round)

      few : 4 * rounds + 4 ≤ last_count
      few = omega (arith, low)

      -- what the questions do to the answers that are kept
      kept : (Bounds (suc rounds) new.bridge.answers.cache) × (new.bridge.answers.accepted ≤ 4 * suc rounds)
      kept =
          let led = leads_all tells seen start o so.passes run b in
          let room : old.bridge.answers.accepted + length (requests_of round) ≤ last_count = omega (arith, so.counted, few_requests round, few) in
          let behind = behind_requests tells seen (old.bridge, before) (p.mid, after) (requests_of round) p.requests.replies (are_requests round) p.requests.each p.requests.taken led.new led.stands room in
          let fresh = fresh_behind tells seen (old.bridge, before) (p.mid, after) (Connect round.block) (joined_again round.reconnects round.block round.hash.0 ++ saved round.saves) p.requests.replies
          (are_requests round) p.requests.each p.requests.taken led.new led.stands room in
          let height = (tip_at seed rounds).height + 1 in
          let number = number_at seed rounds in
          let small : number < 64 = omega arith in
          let ends = asked_twice p.mid new.bridge round.query p.answers rounds (question_for (height % 65536) number) (query_plain height number small) (query_reads height number small) p.asks
          behind.run behind.stands (omega (arith, behind.aged.no_more, so.counted, few_requests round, low)) fresh (omega (arith, low)) (subst (Bounds rounds) (sym behind.aged.cache) so.bounds) in
          (ends.bounds, omega (arith, ends.counted, behind.aged.no_more, so.counted, few_requests round))

      pub one_round : SoFar start seed (suc rounds) new after
      one_round = record {
        replies = so.replies ++ replies;
        passes = passes_each tells seen start (generated_events rounds seed) (events_of round) so.replies replies (old.bridge, before) (new.bridge, after) so.passes each;
        as_many = omega (
          arith,
          so.as_many,
          length-append (generated_events rounds seed) (events_of round),
          length-append so.replies replies,
          as_many tells seen (old.bridge, before) (new.bridge, after) (events_of round) replies each,
        );
        taken = taken_then (generated_events rounds seed) (events_of round) so.replies replies so.as_many so.taken taken;
        answers = omega (arith, p.answers_are, so.answers, answers, answers_then (generated_events rounds seed) (events_of round) so.replies replies so.as_many);
        saves = omega (arith, p.saves_are, counted_add round.saves old.saves, so.saves, saves, saves_then (generated_events rounds seed) (events_of round) so.replies replies so.as_many);
        bounds = kept.0;
        counted = kept.1;
      }

  -- ---- where it begins, and where it ends

  pub no_round : (start : Beginning D) (trial : Trial) (course : Course) (disk : D) → BeginsAt tells seen start course.bridge disk → course.answers ≡ 0 → course.saves ≡ 0
      → SoFar start trial.seed 0 course disk
  no_round start trial course disk at no_answers no_saves =
      let empty : course.bridge.answers ≡ none_kept = ap (λ (bridge : Bridged). bridge.answers) at.bridge_is ∙ at.opened.empty in
      record {
        replies = [];
        passes = subst (λ (bridge : Bridged). Passes tells seen start [] [] bridge disk) (sym at.bridge_is) (subst (λ (d : D). Passes tells seen start [] [] start.bridge d) (sym at.disk_is) none_yet);
        as_many = refl;
        taken = tt;
        answers = no_answers;
        saves = no_saves;
        bounds = subst (λ (a : Answering). Bounds 0 a.cache) (sym empty) (record { no_more = omega arith; no_fewer = omega arith; lacked = omega arith });
        counted = omega (arith, ap (λ (a : Answering). a.accepted) empty);
      }

  module _ (start : Beginning D) (trial : Trial) (course : Course) (disk : D) (o : HasOpened tells start.before (seen start.opened) start.bridge) (b : Begins tells start (begun_on run_base run_host)) where
    plays_so : (rounds : ℕ) (so : SoFar start trial.seed rounds course disk) → Plays tells seen start trial rounds so.replies course.bridge disk
    plays_so rounds so = record { passes = so.passes; leads = leads_all tells seen start o so.passes (begun_on run_base run_host) b; taken = so.taken }

    -- an event of the next round was refused
    caused_so : (rounds : ℕ) (so : SoFar start trial.seed rounds course disk) → rounds < 10000 → (s : StopsIn tells seen (course.bridge, disk) (events_of (round_at trial.seed rounds)))
        → IsCaused trial rounds so.replies s.front s.replies
    caused_so rounds so low s =
        let events = generated_events rounds trial.seed in
        let passes = passes_each tells seen start events s.front so.replies s.replies (course.bridge, disk) s.mid so.passes s.each in
        let led = leads_all tells seen start o passes (begun_on run_base run_host) b in
        let taken = taken_then events s.front so.replies s.replies so.as_many so.taken s.taken in
        record {
          run = led.new;
          runs = led.runs;
          cause = refused_cause trial.seed rounds led.new s.event low (record {
            front = s.front;
            more = s.more;
            split = s.events_are;
            replies = so.replies ++ s.replies;
            runs = led.runs;
            taken = taken;
            reply = s.reply;
            turned = s.turned;
            told = s.last.told;
            refused = s.refused;
            makes = s.last.step led.new led.stands;
          });
        }

    -- all rounds were played
    pub all_rounds : SoFar start trial.seed trial.blocks course disk → HasPlayed tells seen start trial course disk
    all_rounds so = record {
      replies = so.replies;
      plays = plays_so trial.blocks so;
      answers = so.answers;
      saves = so.saves;
      hits_at_most = so.bounds.no_more;
      hits_at_least = so.bounds.no_fewer;
    }

    -- a round wasn't
    pub stops_so : (rounds : ℕ) (after : D) (stop : Stop) → trial.blocks ≤ 10000 → rounds + 1 ≤ trial.blocks → SoFar start trial.seed rounds course disk
        → PlaysRound tells seen course disk (round_at trial.seed rounds) after (Err stop) → StopsWith tells seen start trial (status_of_stop (rounds + 1) stop)
    stops_so rounds after Refused few within so s =
        let stops : StopsIn tells seen (course.bridge, disk) (events_of (round_at trial.seed rounds)) =
        subst (λ (es : List Event). StopsIn tells seen (course.bridge, disk) es) (events_split (round_at trial.seed rounds))
        (stops_before tells seen (course.bridge, disk) (requests_of (round_at trial.seed rounds)) (made.asked_twice (round_at trial.seed rounds).query) s) in
        refused (rounds + 1) (record {
          rounds = rounds;
          block_is = refl;
          within = within;
          replies = so.replies;
          bridge = course.bridge;
          disk = disk;
          plays = plays_so rounds so;
          stops = stops;
          caused = caused_so rounds so (omega (arith, few, within)) stops;
        })
    stops_so rounds after NoMemory few within so s = no_memory
