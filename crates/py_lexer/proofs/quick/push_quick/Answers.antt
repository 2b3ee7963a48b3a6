use Rattle.std.proofs.Common.{◌≡◌, ◌-◌, ◌∷◌, ◌∙◌, sym, length, take, drop, false, rules}
use Rattle.py_lexer.specs.declared.chars.Class.TheVariants.{Letter, Sign, Dot, Quote}
use Rattle.py_lexer.specs.declared.state.Mode.TheVariants as modes
use Rattle.py_lexer.specs.Chars.{class_of, is_digit, is_line_end}
use Rattle.py_lexer.specs.Words.{next_is}
use Rattle.py_lexer.specs.Quick.{has_quote_near}
use Rattle.py_lexer.proofs.QuickLemmas.{parts_at, word_here, sign_here, dot_here, no_line_end, word_in_line, one_in_line, if_ok, pushed_at, quote_says, quote_here}
use Rattle.py_lexer.proofs.quick.push_quick.Goals as goal

pub returns-else-has_quote_near-clause-some : goal.returns-else-has_quote_near-clause-some
returns-else-has_quote_near-clause-some c =
    let chars = c.args.chars.now in
    let rest = take (length chars - 1) (drop 1 chars) in
    let parts : chars ≡ c.first-item.result ∷ rest = parts_at chars c.first-item.result c.in-len1-up.len_at_least c.first-item.is in
    let mode : c.args.state.now.mode ≡ modes.Inside = search rules in
    let class : class_of c.first-item.result ≡ Letter = sym c.class_of.ensures ∙ c.in-Letter.is in
    let near : has_quote_near rest ≡ false = sym c.has_quote_near.ensures ∙ c.if-has_quote_near.false in
    let e = word_here c.args.at c.args.state.now c.first-item.result rest chars parts mode class near in
    if_ok _ _ c.push_word.result (λ len h l. pushed_at _ _ _ _ _ _ _ e (h l c.args.state.now)) c.push_word.ensures.some

pub returns-else-has_quote_near-clause-in_line : goal.returns-else-has_quote_near-clause-in_line
returns-else-has_quote_near-clause-in_line c =
    let chars = c.args.chars.now in
    let rest = take (length chars - 1) (drop 1 chars) in
    let parts : chars ≡ c.first-item.result ∷ rest = parts_at chars c.first-item.result c.in-len1-up.len_at_least c.first-item.is in
    let class : class_of c.first-item.result ≡ Letter = sym c.class_of.ensures ∙ c.in-Letter.is in
    let inside : is_line_end c.first-item.result ≡ false = no_line_end c.first-item.result Letter class (λ e. cc) in
    if_ok _ _ c.push_word.result (λ len h. word_in_line c.first-item.result len rest chars parts inside h) c.push_word.ensures.word

pub returns-in-Sign-clause-some : goal.returns-in-Sign-clause-some
returns-in-Sign-clause-some c =
    let chars = c.args.chars.now in
    let rest = take (length chars - 1) (drop 1 chars) in
    let parts : chars ≡ c.first-item.result ∷ rest = parts_at chars c.first-item.result c.in-len1-up.len_at_least c.first-item.is in
    let mode : c.args.state.now.mode ≡ modes.Inside = search rules in
    let class : class_of c.first-item.result ≡ Sign = sym c.class_of.ensures ∙ c.in-Sign.is in
    let e = sign_here c.args.at c.args.state.now c.first-item.result rest chars parts mode class in
    if_ok _ _ c.push_sign.result (λ len h l. pushed_at _ _ _ _ _ _ _ e (h l)) c.push_sign.ensures.some

pub returns-in-Sign-clause-in_line : goal.returns-in-Sign-clause-in_line
returns-in-Sign-clause-in_line c =
    let chars = c.args.chars.now in
    let rest = take (length chars - 1) (drop 1 chars) in
    let parts : chars ≡ c.first-item.result ∷ rest = parts_at chars c.first-item.result c.in-len1-up.len_at_least c.first-item.is in
    let class : class_of c.first-item.result ≡ Sign = sym c.class_of.ensures ∙ c.in-Sign.is in
    let inside : is_line_end c.first-item.result ≡ false = no_line_end c.first-item.result Sign class (λ e. cc) in
    if_ok _ _ c.push_sign.result (λ len h. one_in_line c.first-item.result len rest chars parts inside h) c.push_sign.ensures.one

pub returns-else-next_is_digit-clause-some : goal.returns-else-next_is_digit-clause-some
returns-else-next_is_digit-clause-some c =
    let chars = c.args.chars.now in
    let rest = take (length chars - 1) (drop 1 chars) in
    let parts : chars ≡ c.first-item.result ∷ rest = parts_at chars c.first-item.result c.in-len1-up.len_at_least c.first-item.is in
    let mode : c.args.state.now.mode ≡ modes.Inside = search rules in
    let class : class_of c.first-item.result ≡ Dot = sym c.class_of.ensures ∙ c.in-Dot.is in
    let digit : next_is is_digit rest ≡ false = sym c.next_is_digit.ensures ∙ c.if-next_is_digit.false in
    let e = dot_here c.args.at c.args.state.now c.first-item.result rest chars parts mode class digit in
    if_ok _ _ c.push_sign-else-next_is_digit.result (λ len h l. pushed_at _ _ _ _ _ _ _ e (h l)) c.push_sign-else-next_is_digit.ensures.some

pub push_string-requires : goal.push_string-requires
push_string-requires c =
    let class : class_of c.first-item.result ≡ Quote = sym c.class_of.ensures ∙ c.in-Quote.is in
    quote_says c.first-item.result class

pub returns-in-Quote-clause-some : goal.returns-in-Quote-clause-some
returns-in-Quote-clause-some c =
    let chars = c.args.chars.now in
    let rest = take (length chars - 1) (drop 1 chars) in
    let parts : chars ≡ c.first-item.result ∷ rest = parts_at chars c.first-item.result c.in-len1-up.len_at_least c.first-item.is in
    let mode : c.args.state.now.mode ≡ modes.Inside = search rules in
    let class : class_of c.first-item.result ≡ Quote = sym c.class_of.ensures ∙ c.in-Quote.is in
    let e = quote_here c.args.at c.args.state.now c.first-item.result rest chars parts mode class in
    if_ok _ _ c.push_string.result (λ len h l. pushed_at _ _ _ _ _ _ _ e (h l c.args.state.now)) c.push_string.ensures.some

pub returns-in-Quote-clause-in_line : goal.returns-in-Quote-clause-in_line
returns-in-Quote-clause-in_line c =
    let chars = c.args.chars.now in
    let rest = take (length chars - 1) (drop 1 chars) in
    let parts : chars ≡ c.first-item.result ∷ rest = parts_at chars c.first-item.result c.in-len1-up.len_at_least c.first-item.is in
    if_ok _ _ c.push_string.result (λ len h. rw parts h) c.push_string.ensures.in_line
