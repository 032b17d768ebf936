-- The text that the program prints about the judge.
use Rattle.std.specs.Prelude.{ℕ, List, [], ◌∷◌, ◌++◌, codes}

-- the help: what a trace is, what is told of it, and exit statuses
unfoldable pub judge_help : List ℕ
judge_help = codes "tcam judge: reads the trace of any driver's device writes, and says whether one"
    ++ 10 ∷ codes "of them lets a packet get a wrong answer, and which packet."
    ++ 10 ∷ 10 ∷ codes "    tcam judge [--results] < FILE"
    ++ 10 ∷ 10 ∷ codes "A trace has a JSON value a line: those of tcam verify --help, whatever order the"
    ++ 10 ∷ codes "driver writes in and however it cuts rules into entries, and two more:"
    ++ 10 ∷ codes "    {\"move\":[FROM,TO,COUNT]}  what stood in COUNT slots from FROM on stands from"
    ++ 10 ∷ codes "                             TO on, by one event"
    ++ 10 ∷ codes "    {\"back\":N}              commit N was taken back, in the place of done"
    ++ 10 ∷ 10 ∷ codes "Behind each write every packet has to get what the rules before its commit"
    ++ 10 ∷ codes "answer, or what those after it do; at done the latter, at back the former."
    ++ 10 ∷ 10 ∷ codes "Options:"
    ++ 10 ∷ codes "    --results       answers are compared by their result alone, where the log"
    ++ 10 ∷ codes "                    doesn't know the priority of an entry"
    ++ 10 ∷ 10 ∷ codes "What is told, and the exit status:"
    ++ 10 ∷ codes "    yes commits N writes W    0: each write is hitless"
    ++ 10 ∷ codes "    no line N packet SRC DST PROTO SPORT DPORT gets A, old B, new C"
    ++ 10 ∷ codes "                              1: line N is the first behind which a packet gets"
    ++ 10 ∷ codes "                              a wrong answer, and this packet does. A, B and C"
    ++ 10 ∷ codes "                              are none, or HIGH:LOW RESULT: both parts of a"
    ++ 10 ∷ codes "                              priority, and a result"
    ++ 10 ∷ codes "    line N bad trace          2: it is none of a trace, or may not stand there,"
    ++ 10 ∷ codes "                              or the last line is missing"
    ++ 10 ∷ codes "    line N not judged         5: whether it is wasn't found out; those before it"
    ++ 10 ∷ codes "                              are hitless"
    ++ 10 ∷ codes "    3 and 6: standard input could not be read, or memory was wanting. 4: standard"
    ++ 10 ∷ codes "    output could not be written. 64: the words are no command line."
    ++ 10 ∷ 10 ∷ codes "The manual is docs/JUDGE.md."
    ++ 10 ∷ []
