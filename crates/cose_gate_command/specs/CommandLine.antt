-- The words of a command line, and what each is.
use Rattle.std.specs.Prelude.{◌&&◌, ◌||◌, ℕ, List, [], ◌∷◌, map, Result, Ok, Err, Option, None, Some, Bool, true, false, if◌then◌else◌, not, is_some, nat_eq, bytes_eq, codes, option_copied, string_bytes}
use Rattle.std.specs.List.{list_any}
use Rattle.cose_gate_command.specs.declared.command_line.CommandLine.{CommandLine}
use Rattle.cose_gate_command.specs.declared.command_line.Options.{Options as HeldOptions}
use Rattle.cose_gate_command.specs.declared.command_line.Word.{Word as HeldWord}
use Rattle.cose_gate_command.specs.declared.command_line.Word.TheVariants as word
use Rattle.cose_gate_command.specs.declared.command_line.Wrong.{Wrong as HeldWrong}
use Rattle.cose_gate_command.specs.declared.command_line.Wrong.TheVariants as held

-- the options of a program: those that stand alone, those that have the word after them, and one
-- that has all words after it, if there is one
pub record Options : Type 0 where
  pub alone : List (List ℕ)
  pub named : List (List ℕ)
  pub last : List (List ℕ)

-- what a word is: an option that stands alone, or isn't one of the program; an option and the word
-- after it; an option that has to have one, and has none; another word; or the words after the last
-- option
pub data Word : Type 0 where
  alone : (option : List ℕ) → Word
  named : (option value : List ℕ) → Word
  lone : (option : List ℕ) → Word
  other : (word : List ℕ) → Word
  rest : (words : List (List ℕ)) → Word

-- a word among some
abbrev pub has : List ℕ → List (List ℕ) → Bool
has word words = list_any (λ w. bytes_eq word w) words

-- a word that begins with a hyphen is an option, but for one hyphen alone
abbrev pub is_option : List ℕ → Bool
is_option [] = false
is_option (c ∷ []) = false
is_option (c ∷ d ∷ cs) = nat_eq c 45

-- what the next word is: an option or another one, the word of an option, or no option
pub data Next : Type 0 where
  any : Next
  value : (option : List ℕ) → Next
  plain : Next

-- the words, each for what it is; after -- none is an option
abbrev pub words_by : Options → Next → List (List ℕ) → List Word
words_by o any [] = []
words_by o (value option) [] = lone option ∷ []
words_by o plain [] = []
words_by o (value option) (w ∷ ws) = named option w ∷ words_by o any ws
words_by o plain (w ∷ ws) = other w ∷ words_by o plain ws
words_by o any (w ∷ ws) =
    if bytes_eq w (codes "--") then words_by o plain ws
    else if has w o.named then words_by o (value w) ws
    else if has w o.last then rest ws ∷ []
    else if is_option w then alone w ∷ words_by o any ws
    else other w ∷ words_by o any ws

-- the words of a program's line
abbrev pub line : Options → List (List ℕ) → List Word
line o ws = words_by o any ws

-- an option that stands alone is there
abbrev pub is_alone : List ℕ → Word → Bool
is_alone option (alone w) = bytes_eq w option
is_alone option _ = false

abbrev pub has_alone : List ℕ → List Word → Bool
has_alone option ws = list_any (is_alone option) ws

-- the word after an option
abbrev pub value_in : List ℕ → Word → Option (List ℕ)
value_in option (named o v) = if bytes_eq o option then Some v else None
value_in option _ = None

abbrev pub or_else : Option (List ℕ) → Option (List ℕ) → Option (List ℕ)
or_else (Some v) more = Some v
or_else None more = more

abbrev pub value_of : List ℕ → List Word → Option (List ℕ)
value_of option [] = None
value_of option (w ∷ ws) = or_else (value_in option w) (value_of option ws)

-- the other words
abbrev pub others : List Word → List (List ℕ)
others [] = []
others (other w ∷ ws) = w ∷ others ws
others (alone o ∷ ws) = others ws
others (named o v ∷ ws) = others ws
others (lone o ∷ ws) = others ws
others (rest r ∷ ws) = others ws

-- the words after the last option
abbrev pub last_words : List Word → Option (List (List ℕ))
last_words [] = None
last_words (rest r ∷ ws) = Some r
last_words (other w ∷ ws) = last_words ws
last_words (alone o ∷ ws) = last_words ws
last_words (named o v ∷ ws) = last_words ws
last_words (lone o ∷ ws) = last_words ws

-- what is wrong with arguments: an option that the program doesn't have; one that has no word, or
-- has two; a word too many; or what this text says
pub data Wrong : Type 0 where
  no_option : (option : List ℕ) → Wrong
  no_word : (option : List ℕ) → Wrong
  twice : (option : List ℕ) → Wrong
  too_many : (word : List ℕ) → Wrong
  says : (text : List ℕ) → Wrong

-- what is wrong with a word before these: it is an option that the program doesn't have, or one
-- that has no word, or has two
abbrev pub word_fault : Options → Word → List Word → Option Wrong
word_fault o (alone w) ws = if has w o.alone then None else Some (no_option w)
word_fault o (named w v) ws = if is_some (value_of w ws) then Some (twice w) else None
word_fault o (lone w) ws = Some (no_word w)
word_fault o (other w) ws = None
word_fault o (rest r) ws = None

-- the first fault, if there is one; else this
abbrev pub unless : {A : Type 0} → Option Wrong → Result A Wrong → Result A Wrong
unless (Some w) r = Err w
unless None r = r

abbrev pub checked : Options → List Word → Result (Unit {0}) Wrong
checked o [] = Ok tt
checked o (w ∷ ws) = unless (word_fault o w ws) (checked o ws)

-- then this
abbrev pub and_then : {A B : Type 0} → (A → Result B Wrong) → Result A Wrong → Result B Wrong
and_then f (Ok a) = f a
and_then f (Err w) = Err w

-- what the words ask for, if each is right
abbrev pub read : {A : Type 0} → Options → (List Word → Result A Wrong) → List Word
    → Result A Wrong
read o f ws = and_then (λ _. f ws) (checked o ws)

-- the value of an option, or this is wrong
abbrev pub or_wrong : {A : Type 0} → Wrong → Option A → Result A Wrong
or_wrong w (Some a) = Ok a
or_wrong w None = Err w

-- the same, as the code has them
abbrev pub options_view : HeldOptions → Options
options_view o = record {
  alone = map (λ w. w.now) o.alone.now;
  named = map (λ w. w.now) o.named.now;
  last = map (λ w. w.now) o.last.now;
}

abbrev pub word_view : HeldWord → Word
word_view (word.Alone o) = alone o.now
word_view (word.Named o v) = named o.now v.now
word_view (word.Lone o) = lone o.now
word_view (word.Other w) = other w.now
word_view (word.Rest r) = rest (map string_bytes r.now)

abbrev pub next_of : Bool → Next
next_of true = plain
next_of false = any

abbrev pub line_view : CommandLine → List Word
line_view l = words_by (options_view l.options) (next_of l.is_plain) (map string_bytes l.words.now)

abbrev pub wrong_view : HeldWrong → Wrong
wrong_view (held.NoOption o) = no_option o.now
wrong_view (held.NoWord o) = no_word o.now
wrong_view (held.Twice o) = twice o.now
wrong_view (held.TooMany w) = too_many w.now
wrong_view (held.Says t) = says t.now
