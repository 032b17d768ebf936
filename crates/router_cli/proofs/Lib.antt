mod Words
mod CommandLines
mod TopCall
