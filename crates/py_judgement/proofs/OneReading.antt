-- No text is read in two ways.
use Rattle.std.proofs.Common.{◌≡◌, List, chars, Ok, Err, inl, inr, refl, sym, ap, subst, ◌∙◌}
use Rattle.rv_names.specs.Keys.{Bytes}
use Rattle.py_literals.specs.declared.place.Pos.{Pos}
use Rattle.py_lexer.specs.declared.token.LexKind.{LexKind}
use Rattle.py_lexer.specs.declared.token.Token.{Token}
use Rattle.py_lexer.specs.Runs.{HasTokens, HasFault}
use Rattle.py_lexer.proofs.OneAnswer.{has_one_answer}
use Rattle.py_ast.specs.Parsed.{IsSpelled}
use Rattle.py_ast.specs.ScopeFaults.{scope_fault, HasNoScopeFault}
use Rattle.py_ast.specs.declared.binding.ScopeFault.{ScopeFault}
use Rattle.py_ast.specs.declared.binding.ScopeFault.TheVariants as scopes
use Rattle.py_ast.specs.declared.statement.Module.{Module}
use Rattle.py_parser.specs.declared.parsing.FileError.{FileError}
use Rattle.py_parser.specs.declared.parsing.FileError.TheVariants.{Lex, Syntax, Unsupported, TooDeep, Twice, Memory}
use Rattle.py_parser.specs.declared.reading.GrammarError.{GrammarError}
use Rattle.py_parser.specs.declared.reading.GrammarError.TheVariants as errors
use Rattle.py_parser.specs.Faults.{IsModule, Refused}
use Rattle.py_parser.specs.Refusals.{IsUnspelled, HasScopeFault, IsFaulty}
use Rattle.py_judgement.specs.Answers.{HasOneReading}
use Rattle.py_judgement.proofs.OneAnswer.{one-tree, one_answer}

-- what is wrong with a text: its characters, its tokens, or its names
data Cause : Type 0 where
  lexical : LexKind → Pos → Cause
  grammatical : GrammarError → Cause
  scoped : ScopeFault → Cause

HasCause : Bytes → Cause → Type 0
HasCause text (lexical kind place) = HasFault (chars text) kind place
HasCause text (grammatical error) = IsUnspelled text error × (error ≡ errors.Memory → ⊥)
HasCause text (scoped fault) = HasScopeFault text fault

grammar_fault : GrammarError → FileError
grammar_fault (errors.Syntax place) = Syntax place
grammar_fault (errors.Unsupported form place) = Unsupported form place
grammar_fault (errors.TooDeep place) = TooDeep place
grammar_fault errors.Memory = Memory

scope_error : ScopeFault → FileError
scope_error (scopes.Twice name place) = Twice name place
scope_error (scopes.Unsupported form place) = Unsupported form place

fault_of : Cause → FileError
fault_of (lexical kind place) = Lex kind place
fault_of (grammatical error) = grammar_fault error
fault_of (scoped fault) = scope_error fault

record Caused (text : Bytes) (fault : FileError) : Type 0 where
  cause : Cause
  has : HasCause text cause
  same : fault ≡ fault_of cause

caused : (text : Bytes) (fault : FileError) → IsFaulty text fault → Caused text fault
unfolding HasCause fault_of grammar_fault scope_error
caused text (Lex kind place) h = record { cause = lexical kind place; has = h.0; same = refl }
caused text (Syntax place) h = record { cause = grammatical (errors.Syntax place); has = (h.0, λ e. cc e); same = refl }
caused text (Unsupported form place) (inl h, other) = record { cause = grammatical (errors.Unsupported form place); has = (h, λ e. cc e); same = refl }
caused text (Unsupported form place) (inr h, other) = record { cause = scoped (scopes.Unsupported form place); has = h; same = refl }
caused text (TooDeep place) h = record { cause = grammatical (errors.TooDeep place); has = (h.0, λ e. cc e); same = refl }
caused text (Twice name place) h = record { cause = scoped (scopes.Twice name place); has = h.0; same = refl }
caused text Memory h = absurd (h.1 refl)

-- ---- two readings of one text

same-tokens : (text : Bytes) (a b : List Token) → HasTokens (chars text) a → HasTokens (chars text) b → a ≡ b
same-tokens text = (has_one_answer (chars text)).one_list

-- the module of the one list of tokens
module-of : (text : Bytes) (m : Module) (ts : List Token) → IsSpelled text m → HasTokens (chars text) ts → IsModule ts m
module-of text m ts h l = subst (λ (k : List Token). IsModule k m) (same-tokens text h.tokens ts h.lexed l) (h.lines, h.spelled, h.tree)

one-module : (text : Bytes) (m n : Module) → IsSpelled text m → IsSpelled text n → m ≡ n
one-module text m n a b = one-tree b.tokens m n (module-of text m b.tokens a b.lexed) (b.lines, b.spelled, b.tree)

not-unlexed : (text : Bytes) (ts : List Token) (kind : LexKind) (place : Pos) → HasTokens (chars text) ts → HasFault (chars text) kind place → ⊥
not-unlexed text = (has_one_answer (chars text)).not_both

-- what is spelled is not refused
not-unspelled : (text : Bytes) (m : Module) (error : GrammarError) → IsSpelled text m → IsUnspelled text error → (error ≡ errors.Memory → ⊥) → ⊥
not-unspelled text m error h (ts, l, r) other =
    let e = one_answer ts (Ok m) (Err error) (module-of text m ts h l, λ k. cc k) (r, λ k. other (cc k)) in cc e

one-error : (text : Bytes) (e f : GrammarError) → HasCause text (grammatical e) → HasCause text (grammatical f) → e ≡ f
unfolding HasCause
one-error text e f ((ts, l, r), h) ((us, k, s), g) =
    let moved : Refused us e = subst (λ (w : List Token). Refused w e) (same-tokens text ts us l k) r in
    let same = one_answer us (Err e) (Err f) (moved, λ p. h (cc p)) (s, λ p. g (cc p)) in cc same

one-scope : (text : Bytes) (f g : ScopeFault) → HasScopeFault text f → HasScopeFault text g → f ≡ g
one-scope text f g (m, h, e) (n, k, d) = let same = ap scope_fault (one-module text m n h k) in cc (e, same, d)

one-cause : (text : Bytes) (c d : Cause) → HasCause text c → HasCause text d → c ≡ d
unfolding HasCause
one-cause text (lexical k p) (lexical l q) a b = let h = (has_one_answer (chars text)).one_fault k l p q a b in cc (h.0, h.1)
one-cause text (lexical k p) (grammatical f) a ((ts, l, r), h) = absurd (not-unlexed text ts k p l a)
one-cause text (lexical k p) (scoped g) a (m, h, e) = absurd (not-unlexed text h.tokens k p h.lexed a)
one-cause text (grammatical e) (lexical l q) ((ts, k, r), h) b = absurd (not-unlexed text ts l q k b)
one-cause text (grammatical e) (grammatical f) a b = ap grammatical (one-error text e f a b)
one-cause text (grammatical e) (scoped g) a (m, h, f) = absurd (not-unspelled text m e h a.0 a.1)
one-cause text (scoped f) (lexical l q) (m, h, e) b = absurd (not-unlexed text h.tokens l q h.lexed b)
one-cause text (scoped f) (grammatical e) (m, h, k) b = absurd (not-unspelled text m e h b.0 b.1)
one-cause text (scoped f) (scoped g) a b = ap scoped (one-scope text f g a b)

-- ---- a module, and a fault

not-caused : (text : Bytes) (m : Module) (c : Cause) → IsSpelled text m → HasNoScopeFault m → HasCause text c → ⊥
unfolding HasCause
not-caused text m (lexical k p) h n a = not-unlexed text h.tokens k p h.lexed a
not-caused text m (grammatical e) h n a = not-unspelled text m e h a.0 a.1
not-caused text m (scoped f) h n (o, k, e) = let same = ap scope_fault (one-module text m o h k) in cc (n, same, e)

not-both : (text : Bytes) (m : Module) (fault : FileError) → IsSpelled text m → HasNoScopeFault m → IsFaulty text fault → ⊥
not-both text m fault h n a = let c = caused text fault a in not-caused text m c.cause h n c.has

one-fault : (text : Bytes) (f g : FileError) → IsFaulty text f → IsFaulty text g → f ≡ g
one-fault text f g a b =
    let c = caused text f a in
    let d = caused text g b in
    c.same ∙ ap fault_of (one-cause text c.cause d.cause c.has d.has) ∙ sym d.same

pub has_one_reading : (text : Bytes) → HasOneReading text
has_one_reading text = record { one_module = one-module text; not_both = not-both text; one_fault = one-fault text }
